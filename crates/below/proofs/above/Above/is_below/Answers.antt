use mathlib.Core.Path.{◌∙◌}
use Rattle.below.proofs.AnyParent.{mark_read}
use Rattle.below.proofs.above.Above.is_below.Goals as goal

pub returns-in-Some : goal.returns-in-Some
returns-in-Some c =
    c.has_mark.ensures
    ∙ mark_read c.self.inside.table.now c.args.self.now c.self.inside.classes.now c.self.inside.marks.now c.in-Some.j c.args.class c.args.above
    c.self.view_is c.self.invariant c.in-Some.ensures
