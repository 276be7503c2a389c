use Prim.Native.Nat.{ℕ, ◌%◌}
use lib.ListN.{get_or}
use mathlib.Core.List.{List}
use mathlib.Core.Path.{sym, ap, ◌∙◌}
use native.Mathlib.Omega.{arith}
use Rattle.index.proofs.Buckets.{digit_mixed, digit_own}
use Rattle.index.specs.Inside.SearchKey.{name_bytes_at, digits_for, digit_for}
use Rattle.index.specs.declared.tree.Key.{Key}
use Rattle.index.proofs.tree.digit.Goals as goal

pub returns-then-d-lt21 : goal.returns-then-d-lt21
returns-then-d-lt21 c = (
  digit_mixed (name_bytes_at c.args.t.now c.in-Name.place.at) c.args.h c.args.d
      (c.requires.1 ∙ ap (λ (z : Key). digits_for c.args.t.now z c.args.d) c.in-Name.is) c.if-d-lt21.true
      ∙ sym (ap (λ (z : Key). digit_for c.args.t.now z c.args.d) c.in-Name.is),
  omega arith,
)

pub returns-else-d-lt21 : goal.returns-else-d-lt21
returns-else-d-lt21 c = (
  digit_own (name_bytes_at c.args.t.now c.in-Name.place.at) c.byte_at-b.result c.args.d
      (c.byte_at-b.ensures ∙ ap (λ (z : List ℕ). get_or z (c.args.d % 24) 0) c.name_at.ensures) (omega (arith, c.if-d-lt21.false))
      ∙ sym (ap (λ (z : Key). digit_for c.args.t.now z c.args.d) c.in-Name.is),
  omega arith,
)
