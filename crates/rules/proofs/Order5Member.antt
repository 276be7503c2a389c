-- Order 5's claim of members (specs/Order5Member).
use Prim.Native.Nat.{ℕ}
use lib.ListN.{drop}
use mathlib.Core.Path.{◌≡◌, refl}
use Rattle.operators.specs.Operand.{is_kind}
use Rattle.question.specs.declared.Header.{Header}
use Rattle.rules.specs.Member.{element_member, member_report, kind_member, base_member, member_out}
use Rattle.rules.specs.Order5Member.{ArrayMembers}
use Rattle.symbol.specs.Symbols.{Symbols}
use Rattle.ty.proofs.Bodies.{apart}
use Rattle.ty.proofs.Choice.{or_right}
use Rattle.ty.proofs.Order5.{both_widths}
use Rattle.ty.specs.Bytes.{Ty, kind_of, is_array_kind, is_array, non_null}
use Rattle.ty.specs.Choose.{choose}
use Rattle.ty.specs.Kind.{string_kind, any_kind, nullable_kind, array_kind, list_kind, named_kind, module_kind, large_array_kind}

pub array_members : (S : Symbols) (H : Header) (id : ℕ) (t : Ty) → ArrayMembers S H id t
unfolding base_member member_out member_report kind_member non_null choose
array_members S H id t a =
    rw (
      apart is_array_kind (kind_of t) nullable_kind a refl,
      apart is_array_kind (kind_of t) any_kind a refl,
      apart is_array_kind (kind_of t) module_kind a refl,
      apart is_array_kind (kind_of t) named_kind a refl,
      apart is_array_kind (kind_of t) string_kind a refl,
      or_right (is_kind list_kind t) (is_array t) a,
    )

-- ---- each width's instance
module _ (S : Symbols) (H : Header) (id : ℕ) (t : Ty) where
  small_members : kind_of t ≡ array_kind → member_out S H id t ≡ element_member (drop 6 t) id
  small_members k = rw (both_widths.four t k).1 at (array_members S H id t (rw k refl))

  large_members : kind_of t ≡ large_array_kind → member_out S H id t ≡ element_member (drop 10 t) id
  large_members k = rw (both_widths.eight t k).1 at (array_members S H id t (rw k refl))
