use Rattle.below.proofs.MarkBits.{parents_marked}
use Rattle.below.specs.Inside.Marks.{has_bit, has_mark}
use Rattle.below.proofs.marks.mark_parents.Goals as goal

pub returns-clause-bits : goal.returns-clause-bits
returns-clause-bits c = λ S a j g.
    parents_marked S a c.args.parents g (has_bit c.args.mask j) (has_mark c.args.marks.now j) (has_mark c.mark.new.marks j) (has_mark c.mark-2.new.marks j)
    (has_mark c.mark-3.new.marks j) (c.mark.ensures.bits j) (c.mark-2.ensures.bits j) (c.mark-3.ensures.bits j)
