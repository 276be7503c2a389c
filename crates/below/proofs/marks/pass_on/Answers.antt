use mathlib.Core.Path.{◌∙◌, ap}
use lib.ListN.{get_or}
use Prim.Native.Nat.{ℕ}
use Rattle.below.proofs.MarkBits.{turn_marked, turn_left}
use Rattle.below.specs.Inside.Marks.{has_mark}
use Rattle.symbol.specs.Inside.ClassRun.{class_at}
use Rattle.symbol.specs.Lookup.{symbols_of}
use Rattle.below.proofs.marks.pass_on.Goals as goal

pub returns-then-mask-ne0-clause-bits : goal.returns-then-mask-ne0-clause-bits
returns-then-mask-ne0-clause-bits c = λ j.
    turn_marked (symbols_of c.args.records.now) c.args.marks.now (class_at c.args.records.now c.args.i) c.mask_of-mask.result j
    (c.mask_of-mask.ensures ∙ ap (λ (z : ℕ). get_or c.args.marks.now z 0) c.class_at.ensures) (has_mark c.mark_parents.new.marks j)
    (c.mark_parents.ensures.bits (symbols_of c.args.records.now) (class_at c.args.records.now c.args.i) j c.parents_at.ensures.of_class)

pub returns-else-mask-ne0-clause-bits : goal.returns-else-mask-ne0-clause-bits
returns-else-mask-ne0-clause-bits c = λ j.
    turn_left (symbols_of c.args.records.now) c.args.marks.now (class_at c.args.records.now c.args.i) c.mask_of-mask.result j
    (c.mask_of-mask.ensures ∙ ap (λ (z : ℕ). get_or c.args.marks.now z 0) c.class_at.ensures) c.if-mask-ne0.false
