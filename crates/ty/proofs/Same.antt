-- Laws of `same_bytes`: it is equality of lists.
use Prim.Native.Nat.{ℕ}
use borrow.Author.Tests.{eq-eqb, eqb-true}
use lib.Dec.{eqb}
use lib.Pointwise.{pointwise}
use mathlib.Core.Bool.{Bool, true, false, true≢false, false≢true}
use mathlib.Core.List.{List, [], ◌∷◌}
use mathlib.Core.Path.{◌≡◌, refl, sym, ◌∙◌}
use Rattle.ty.proofs.Choice.{and_left, and_right}
use Rattle.ty.specs.Bytes.{same_bytes}

-- the same bytes are equal lists, and the other way round
pub same_eq : (a b : List ℕ) → same_bytes a b ≡ true → a ≡ b
unfolding same_bytes
same_eq [] [] e = refl
same_eq [] (y ∷ ys) e = absurd (false≢true e)
same_eq (x ∷ xs) [] e = absurd (false≢true e)
same_eq (x ∷ xs) (y ∷ ys) e = rw (eqb-true x y (and_left (eqb x y) (same_bytes xs ys) e), same_eq xs ys (and_right (eqb x y) (same_bytes xs ys) e))

pub same_refl : (a : List ℕ) → same_bytes a a ≡ true
unfolding same_bytes
same_refl [] = refl
same_refl (x ∷ xs) = rw (eq-eqb x x refl) (same_refl xs)

pub eq_same : (a b : List ℕ) → a ≡ b → same_bytes a b ≡ true
eq_same a b e = rw e (same_refl b)

-- and so for what is not the same
pub differ_ne : (a b : List ℕ) → same_bytes a b ≡ false → a ≡ b → ⊥
differ_ne a b d e = true≢false (sym (eq_same a b e) ∙ d)

pub ne_differ : (a b : List ℕ) → (a ≡ b → ⊥) → same_bytes a b ≡ false
ne_differ a b h = by_test (same_bytes a b) (λ e. h (same_eq a b e))
  where
    by_test : (t : Bool) → (t ≡ true → ⊥) → t ≡ false
    by_test true f = absurd (f refl)
    by_test false f = refl

-- std's equality of lists
pub pointwise_same : (a b : List ℕ) → pointwise eqb a b ≡ same_bytes a b
unfolding same_bytes
pointwise_same [] [] = refl
pointwise_same [] (y ∷ ys) = refl
pointwise_same (x ∷ xs) [] = refl
pointwise_same (x ∷ xs) (y ∷ ys) = rw (pointwise_same xs ys)
