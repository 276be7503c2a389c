use Rattle.overload.proofs.ClassesGathered.{Gathered}
use Rattle.overload.proofs.classes.classes_of.Given as goal

abbrev pub invariant-loop-a : goal.invariant-loop-a
invariant-loop-a g l = Gathered l.slots l.args l.classes l.a-index
