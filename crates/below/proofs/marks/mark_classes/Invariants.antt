use Rattle.below.specs.Inside.RecordParents.{ParentsMarked}
use Rattle.below.proofs.marks.mark_classes.Given as goal

-- the classes before the j-th are done
abbrev pub invariant-loop-j : goal.invariant-loop-j
invariant-loop-j l = ParentsMarked l.table l.classes l.j l.records l.marks
