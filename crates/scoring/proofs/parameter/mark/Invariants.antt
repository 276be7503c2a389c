use Rattle.scoring.proofs.ParamsReceived.{MarkedTo}
use Rattle.scoring.proofs.parameter.mark.Given as goal

abbrev pub invariant-loop-j : goal.invariant-loop-j
invariant-loop-j l = MarkedTo l.params l.id l.initial.marks l.j l.marks
