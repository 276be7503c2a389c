use Rattle.scoring.proofs.Scores.{UnnamedFrom}
use Rattle.scoring.proofs.score.positional_pass.Given as goal

abbrev pub invariant-loop-a : goal.invariant-loop-a
invariant-loop-a g l = UnnamedFrom l.above l.params l.marks l.slots l.args l.w l.a-index
