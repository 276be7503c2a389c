use mathlib.Core.Path.{refl}
use native.Mathlib.Omega.{arith}
use Rattle.below.proofs.MarksMade.{none_marked_yet, one_marked_more}
use Rattle.below.proofs.marks.mark_classes.Goals as goal

pub loop-j-init : goal.loop-j-init
loop-j-init c = none_marked_yet c.args.table.now c.args.classes.now c.args.marks.now c.requires.1

pub loop-j-preserved : goal.loop-j-preserved
loop-j-preserved c =
    let l = c.loop-j-test.true in
    let few = c.requires.0 in
    one_marked_more c.args.table.now c.args.classes.now c.loop-j.j c.loop-j.records _ c.mark_class-these.result c.loop-j.marks c.mark_class-these.new.marks
    (omega arith) refl c.loop-j.invariant c.mark_class-these.ensures.early c.mark_class-these.ensures.bits c.mark_class-these.ensures.long
    c.max-records.result c.max-records.ensures
