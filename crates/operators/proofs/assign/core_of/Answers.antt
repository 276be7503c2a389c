use mathlib.Core.Path.{refl, sym, ap, ◌∙◌}
use Rattle.operators.proofs.Cores.{core-inner, goes_shorter, core_named, core_none}
use Rattle.operators.specs.Inside.Core.{core_of}
use Rattle.ty.specs.Bytes.{Ty}
use Rattle.operators.proofs.assign.core_of.Goals as goal

pub loop-at-init : goal.loop-at-init
loop-at-init c = refl

pub loop-at-smaller : goal.loop-at-smaller
loop-at-smaller c = rw c.inner-at.ensures (goes_shorter _ (rw c.kind_of.ensures at (sym c.goes_inside.ensures ∙ c.loop-at-test.true)))

pub loop-at-preserved : goal.loop-at-preserved
loop-at-preserved c =
    ap (λ (t : Ty). core_of t) c.inner-at.ensures
    ∙ core-inner _ (rw c.kind_of.ensures at (sym c.goes_inside.ensures ∙ c.loop-at-test.true)) ∙ c.loop-at.invariant

pub returns-then-is_kind : goal.returns-then-is_kind
returns-then-is_kind c =
    c.name_of.ensures
    ∙ sym (core_named _ (rw c.kind_of.ensures at (sym c.goes_inside.ensures ∙ c.loop-at-test.false)) (sym c.is_kind.ensures ∙ c.if-is_kind.true))
    ∙ c.loop-at.invariant

pub returns : goal.returns
returns c =
    sym (core_none _ (rw c.kind_of.ensures at (sym c.goes_inside.ensures ∙ c.loop-at-test.false)) (sym c.is_kind.ensures ∙ c.if-is_kind.false))
    ∙ c.loop-at.invariant
