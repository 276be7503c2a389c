-- A member's base: where an object is not reported as nullable, its base is the object itself, or Any or Error, which have no elements.
use Prim.Native.Nat.{ℕ}
use mathlib.Core.Path.{◌≡◌, refl, sym}
use mathlib.Core.Bool.{Bool, true, false, not, false≢true, ◌&&◌, ◌||◌}
use lib.Dec.{eqb}
use borrow.Author.Tests.{eqb-true}
use Rattle.ty.proofs.Choice.{or_cases}
use Rattle.ty.specs.Choose.{choose}
use Rattle.ty.specs.Kind.{any_kind, nullable_kind, list_kind, error_kind}
use Rattle.ty.specs.Bytes.{Ty, kind_of, is_array_kind, inner_of, non_null}
use Rattle.rules.specs.Member.{is_nullable_object}
use Rattle.rules.specs.Inside.MemberRuled.{HoldsSame}

-- what is not reported, though it is nullable, is unknown
unknown : (n u : Bool) → n ≡ true → n && not u ≡ false → u ≡ true
unknown true true e h = refl
unknown true false e h = sym h
unknown false true e h = refl
unknown false false e h = e

any_empty : (k : ℕ) → k ≡ any_kind → eqb k list_kind || is_array_kind k ≡ true → ⊥
any_empty k e h = false≢true (rw e at h)

error_empty : (k : ℕ) → k ≡ error_kind → eqb k list_kind || is_array_kind k ≡ true → ⊥
error_empty k e h = false≢true (rw e at h)

not-nullable : (t : Ty) → eqb (kind_of t) nullable_kind ≡ false → non_null t ≡ t
unfolding non_null choose
not-nullable t e = rw e

pub same_base : (t : Ty) → is_nullable_object t ≡ false → HoldsSame t (non_null t)
same_base t h elements = go (eqb (kind_of t) nullable_kind) refl
  where
    go : (v : Bool) → eqb (kind_of t) nullable_kind ≡ v → inner_of t ≡ inner_of (non_null t)
    go false e = rw (not-nullable t e)
    go true e =
        or_cases (eqb (kind_of (non_null t)) any_kind) (eqb (kind_of (non_null t)) error_kind) (unknown (true || eqb (kind_of t) any_kind) _ refl (rw e at h))
        (λ a. absurd (any_empty (kind_of (non_null t)) (eqb-true (kind_of (non_null t)) any_kind a) elements))
        (λ a. absurd (error_empty (kind_of (non_null t)) (eqb-true (kind_of (non_null t)) error_kind a) elements))
