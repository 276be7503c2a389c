use mathlib.Core.Path.{◌∙◌, sym}
use native.Mathlib.Omega.{arith}
use Rattle.below.proofs.AnyParent.{no_marks, one_without_more, one_with, none_with}
use Rattle.below.proofs.marks.any_parent.Goals as goal

pub loop-class-preserved : goal.loop-class-preserved
loop-class-preserved c =
    one_without_more c.args.table.now c.args.classes.now c.loop-class.class-index c.loop-class.invariant c.parents_of.result c.parents_of.ensures.accepted
    c.parents_of.ensures.parents (sym c.is_some.ensures ∙ c.if-is_some.false)

pub returns-then-is_some-clause-any : goal.returns-then-is_some-clause-any
returns-then-is_some-clause-any c =
    one_with c.args.table.now c.args.classes.now c.loop-class.class-index c.loop-class-test.true c.parents_of.result c.parents_of.ensures.parents
    (sym c.is_some.ensures ∙ c.if-is_some.true)

pub returns-clause-any : goal.returns-clause-any
returns-clause-any c = none_with c.args.table.now c.args.classes.now (λ j l. c.loop-class.invariant j (let k = c.loop-class-test.false in omega arith))

pub returns-clause-unmarked : goal.returns-clause-unmarked
returns-clause-unmarked c = λ h.
    no_marks c.args.table.now c.args.classes.now (λ j l. c.loop-class.invariant j (let k = c.loop-class-test.false in omega arith))
