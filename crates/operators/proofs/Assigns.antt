-- Laws of assignability: each step goes to types that are shorter together, so the fuel does not matter, and `can_assign` unfolds into itself on them.
--
use mathlib.Core.Path.{◌≡◌, refl, sym}
use mathlib.Core.Bool.{Bool, true, false, false≢true, ◌||◌}
use mathlib.Core.List.{[], ◌∷◌}
use mathlib.Core.Logic.{◌⊎◌, inl, inr}
use Prim.Native.Nat.{ℕ, zero, suc, ◌+◌, ◌<◌}
use native.Mathlib.Nat.{not-suc-le-zero}
use native.Mathlib.Omega.{arith}
use lib.ListN.{length}
use lib.Dec.{eqb}
use borrow.Author.Tests.{eqb-true}
use Rattle.ty.proofs.Choice.{by_choice, and_left, and_right, or_right, or_false}
use Rattle.ty.proofs.Held.{inner_shorter}
use Rattle.ty.specs.Kind.{no_kind, nullable_kind, list_kind, named_kind}
use Rattle.ty.specs.Bytes.{Ty, kind_of, name_of, is_array, inner_of}
use Rattle.operators.specs.Assign.{assign_step, answer_by, assign_in, can_assign}
use Rattle.operators.specs.Operand.{is_kind}
use Rattle.operators.specs.declared.assign.Next.{Next}
use Rattle.operators.specs.declared.assign.Next.TheVariants.{Yes, No, Left, Right, Both, Classes}

-- a test that may be left out
pub or_yes : (s t : Bool) → t ≡ true → true ≡ s || t
or_yes s t e = sym (or_right s t e)

pub or_no : (s t : Bool) → t ≡ false → s ≡ s || t
or_no s t e = sym (or_false s t e)

pub ruleset either_way = (or_yes, or_no)

-- a type with a kind has a byte
pub some : (a : Ty) (k : ℕ) → k < no_kind → eqb (kind_of a) k ≡ true → 0 < length a
some [] k h e = let q : no_kind ≡ k = eqb-true no_kind k e in omega arith
some (x ∷ a) k h e = omega arith

array : (a : Ty) → is_array a ≡ true → 0 < length a
array [] e = absurd (false≢true e)
array (x ∷ a) e = omega arith

-- why a step goes where it goes
unfoldable pub Reason : Ty → Ty → Next → Type 0
Reason a b Yes = Unit
Reason a b No = Unit
Reason a b Left = (is_kind nullable_kind a ≡ true) × (is_kind nullable_kind b ≡ false)
Reason a b Right = is_kind nullable_kind b ≡ true
Reason a b Both = ((is_kind list_kind a ≡ true) ⊎ (is_array a ≡ true)) × (is_array b ≡ true)
Reason a b Classes = (is_kind named_kind a ≡ true) × (is_kind named_kind b ≡ true)

pub reason : (a b : Ty) → Reason a b (assign_step a b)
unfolding assign_step Reason
reason a b =
    by_choice (Reason a b) _ (λ _. tt) λ _.
    by_choice (Reason a b) _ (λ e. (inl (and_left _ _ e), and_right (is_kind list_kind a) _ e)) λ _.
    by_choice (Reason a b) _ (λ _. tt) λ _.
    by_choice (Reason a b) _ (λ e. (inr (and_left _ _ e), and_right (is_array a) _ e)) λ _.
    by_choice (Reason a b) _ (λ _. tt) λ _.
    by_choice (Reason a b) _ (λ _. tt) λ _.
    by_choice (Reason a b) _ (λ e. e) λ n.
    by_choice (Reason a b) _ (λ e. (e, n)) λ _.
    by_choice (Reason a b) _ (λ _. tt) λ _.
    by_choice (Reason a b) _ (λ e. (and_left _ _ e, and_right (is_kind named_kind a) _ e)) (λ _. tt)

pub reason_by : (a b : Ty) (r : Next) → r ≡ assign_step a b → Reason a b r
reason_by a b r e = rw e (reason a b)

-- the types that a step goes to are shorter together
unfoldable pub Shorter : Ty → Ty → Next → Type 0
Shorter a b Yes = Unit
Shorter a b No = Unit
Shorter a b Left = length (inner_of a) < length a
Shorter a b Right = length (inner_of b) < length b
Shorter a b Both = (length (inner_of a) < length a) × (length (inner_of b) < length b)
Shorter a b Classes = Unit

pub by_reason : (a b : Ty) (r : Next) → Reason a b r → Shorter a b r
unfolding Reason Shorter
by_reason a b Yes h = tt
by_reason a b No h = tt
by_reason a b Left h = inner_shorter a (some a nullable_kind (omega arith) h.0)
by_reason a b Right h = inner_shorter b (some b nullable_kind (omega arith) h)
by_reason a b Both (inl h, k) = (inner_shorter a (some a list_kind (omega arith) h), inner_shorter b (array b k))
by_reason a b Both (inr h, k) = (inner_shorter a (array a h), inner_shorter b (array b k))
by_reason a b Classes h = tt

pub shorter : (a b : Ty) → Shorter a b (assign_step a b)
shorter a b = by_reason a b (assign_step a b) (reason a b)

module _ (below : ℕ → ℕ → Bool) where
  -- two continuations that agree on types that are shorter together give one answer
  same_answer : (a b : Ty) (r : Next) (f g : Ty → Ty → Bool) → Shorter a b r
      → ((x y : Ty) → length x + length y < length a + length b → f x y ≡ g x y) → answer_by below r a b f ≡ answer_by below r a b g
  unfolding Shorter
  same_answer a b Yes f g s h = refl
  same_answer a b No f g s h = refl
  same_answer a b Left f g s h = h (inner_of a) b (omega arith)
  same_answer a b Right f g s h = h a (inner_of b) (omega arith)
  same_answer a b Both f g s h = h (inner_of a) (inner_of b) (omega (arith, s.0, s.1))
  same_answer a b Classes f g s h = refl

  -- any fuel above the lengths is enough
  pub enough : (f g : ℕ) (a b : Ty) → length a + length b < f → length a + length b < g → assign_in below f a b ≡ assign_in below g a b
  unfolding assign_in
  enough zero g a b h k = absurd (not-suc-le-zero h)
  enough (suc f) zero a b h k = absurd (not-suc-le-zero k)
  enough (suc f) (suc g) a b h k =
      same_answer a b (assign_step a b) (λ x y. assign_in below f x y) (λ x y. assign_in below g x y) (shorter a b)
      (λ x y s. enough f g x y (omega arith) (omega arith))

  -- `can_assign` by one step
  pub assigns_step : (a b : Ty) → can_assign below a b ≡ answer_by below (assign_step a b) a b (λ x y. can_assign below x y)
  unfolding can_assign assign_in
  assigns_step a b =
      same_answer a b (assign_step a b) (λ x y. assign_in below (length a + length b) x y) (λ x y. can_assign below x y) (shorter a b)
      (λ x y s. enough (length a + length b) (suc (length x + length y)) x y s (omega arith))

  -- the same with the step's value known
  pub assigns_by : (a b : Ty) (r : Next) → r ≡ assign_step a b → can_assign below a b ≡ answer_by below r a b (λ x y. can_assign below x y)
  assigns_by a b r e = rw e (assigns_step a b)

  -- by name
  pub yes_is : (a b : Ty) → Yes ≡ assign_step a b → can_assign below a b ≡ true
  yes_is a b e = assigns_by a b Yes e

  pub no_is : (a b : Ty) → No ≡ assign_step a b → can_assign below a b ≡ false
  no_is a b e = assigns_by a b No e

  pub both_is : (a b : Ty) → Both ≡ assign_step a b → can_assign below a b ≡ can_assign below (inner_of a) (inner_of b)
  both_is a b e = assigns_by a b Both e

  pub climb_is : (a b : Ty) → Classes ≡ assign_step a b → can_assign below a b ≡ below (name_of a) (name_of b)
  climb_is a b e = assigns_by a b Classes e

pub shorter_by : (a b : Ty) (r : Next) → r ≡ assign_step a b → Shorter a b r
shorter_by a b r e = rw e (shorter a b)

pub left_shorter : (a b : Ty) → Left ≡ assign_step a b → length (inner_of a) < length a
unfolding Shorter
left_shorter a b e = shorter_by a b Left e

pub right_shorter : (a b : Ty) → Right ≡ assign_step a b → length (inner_of b) < length b
unfolding Shorter
right_shorter a b e = shorter_by a b Right e

pub both_shorter : (a b : Ty) → Both ≡ assign_step a b → (length (inner_of a) < length a) × (length (inner_of b) < length b)
unfolding Shorter
both_shorter a b e = shorter_by a b Both e
