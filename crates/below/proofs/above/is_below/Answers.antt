use mathlib.Core.Path.{◌∙◌, sym}
use Rattle.below.proofs.MarksMade.{parent_above}
use Rattle.below.proofs.ParentsFound.{none_above}
use Rattle.below.proofs.above.is_below.Goals as goal

pub returns-in-None : goal.returns-in-None
returns-in-None c = none_above c.args.table.now c.in-None.ensures.accepted c.args.class c.args.above c.in-None.ensures.parents

pub returns-then-has : goal.returns-then-has
returns-then-has c =
    let h = sym c.has.ensures ∙ c.if-has.true in
    c.if-has.true
    ∙ parent_above c.args.table.now c.in-Some.ensures.accepted c.args.class c.args.above c.in-Some.found.parents c.in-Some.ensures.parents.parents h
