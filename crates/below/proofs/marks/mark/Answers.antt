use Rattle.below.proofs.MarkBits.{id_marked, none_marked}
use Rattle.below.specs.Inside.Marks.{has_bit, has_mark}
use Rattle.below.proofs.marks.mark.Goals as goal

pub returns-then-id-ne-NONE-clause-bits : goal.returns-then-id-ne-NONE-clause-bits
returns-then-id-ne-NONE-clause-bits c = λ j. id_marked c.args.marks.now c.args.id c.args.mask (c.requires c.if-id-ne-NONE.true) c.if-id-ne-NONE.true j

pub returns-else-id-ne-NONE-clause-bits : goal.returns-else-id-ne-NONE-clause-bits
returns-else-id-ne-NONE-clause-bits c = λ j. none_marked (has_mark c.args.marks.now j) c.args.id (has_bit c.args.mask j) c.if-id-ne-NONE.false
