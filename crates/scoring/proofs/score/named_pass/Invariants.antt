use Rattle.scoring.proofs.Scores.{NamedFrom}
use Rattle.scoring.proofs.score.named_pass.Given as goal

abbrev pub invariant-loop-a : goal.invariant-loop-a
invariant-loop-a g l = NamedFrom l.above l.params l.slots l.args l.m l.a-index
