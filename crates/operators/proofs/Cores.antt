-- The class that assignability from a type asks about is the same at every depth, and what is above it is all that is asked of the classes above others.
use Prim.Native.Nat.{ℕ, zero, suc, ◌+◌, ◌<◌}
use borrow.Author.Tests.{eqb-true}
use lib.Dec.{eqb}
use lib.ListN.{length, drop}
use mathlib.Core.Bool.{Bool, true, false, false≢true}
use mathlib.Core.List.{List, [], ◌∷◌}
use mathlib.Core.Logic.{inl, inr}
use mathlib.Core.Path.{◌≡◌, refl, sym, ap, ◌∙◌}
use native.Mathlib.Omega.{arith}
use Rattle.operators.proofs.Assigns.{Reason, reason}
use Rattle.operators.specs.Assign.{assign_step, answer_by, assign_in, can_assign}
use Rattle.operators.specs.Inside.Core.{goes_inside, core_from, core_of}
use Rattle.operators.specs.Operand.{is_kind}
use Rattle.operators.specs.declared.assign.Next.TheVariants.{Yes, No, Left, Right, Both, Classes}
use Rattle.operators.specs.declared.assign.Next.{Next}
use Rattle.ty.proofs.Choice.{by_choice, choose_yes, choose_no, or_left, or_right}
use Rattle.ty.proofs.Held.{inner_shorter}
use Rattle.ty.specs.Bytes.{Ty, kind_of, name_of, is_array_kind, is_array, size_width, inner_of}
use Rattle.ty.specs.Choose.{choose}
use Rattle.ty.specs.Kind.{nullable_kind, list_kind, named_kind}
use Rattle.ty.specs.Name.{no_id}

-- bytes that are skipped
core_behind : (n : ℕ) (s : List ℕ) → core_from n s ≡ core_of (drop n s)
unfolding core_from
core_behind zero s = refl
core_behind (suc n) [] = refl
core_behind (suc n) (k ∷ s) = core_behind n s

-- inside there is the same class
pub core-inner : (a : Ty) → goes_inside (kind_of a) ≡ true → core_of (inner_of a) ≡ core_of a
unfolding core_from inner_of
core-inner [] e = absurd (false≢true e)
core-inner (k ∷ s) e =
    by_choice (λ (t : Ty). core_of t ≡ core_from (choose (is_array_kind k) (1 + size_width k) 0) s) (is_array_kind k)
    (λ h. rw (choose_yes (is_array_kind k) (1 + size_width k) 0 h) (let w : 2 + size_width k ≡ suc (1 + size_width k) = omega arith in rw w (sym (core_behind (1 + size_width k) s))))
    (λ h. rw (choose_no (is_array_kind k) (1 + size_width k) 0 h) refl)
    ∙ sym (choose_yes (goes_inside k) _ _ e)

pub goes_shorter : (a : Ty) → goes_inside (kind_of a) ≡ true → length (inner_of a) < length a
goes_shorter [] e = absurd (false≢true e)
goes_shorter (k ∷ s) e = inner_shorter (k ∷ s) (omega arith)

pub core_named : (a : Ty) → goes_inside (kind_of a) ≡ false → is_kind named_kind a ≡ true → core_of a ≡ name_of a
unfolding core_from
core_named [] w e = absurd (false≢true e)
core_named (k ∷ s) w e = choose_no (goes_inside k) _ _ w ∙ choose_yes (eqb k named_kind) _ _ e

pub core_none : (a : Ty) → goes_inside (kind_of a) ≡ false → is_kind named_kind a ≡ false → core_of a ≡ no_id
unfolding core_from
core_none [] w e = refl
core_none (k ∷ s) w e = choose_no (goes_inside k) _ _ w ∙ choose_no (eqb k named_kind) _ _ e

-- ---- where a step goes inside the left type
nullable_inside : (a : Ty) → is_kind nullable_kind a ≡ true → goes_inside (kind_of a) ≡ true
nullable_inside a e = or_right (is_array a) _ (or_left _ _ e)

list_inside : (a : Ty) → is_kind list_kind a ≡ true → goes_inside (kind_of a) ≡ true
list_inside a e = or_right (is_array a) _ (or_right (is_kind nullable_kind a) _ e)

array_inside : (a : Ty) → is_array a ≡ true → goes_inside (kind_of a) ≡ true
array_inside a e = or_left (is_array a) _ e

named_core : (a : Ty) → is_kind named_kind a ≡ true → core_of a ≡ name_of a
named_core a e = core_named a (ap goes_inside (eqb-true (kind_of a) named_kind e)) e

module _ (below : ℕ → ℕ → Bool) (up : ℕ → Bool) where
  -- what is above the class of a type
  abbrev Up : Ty → Type 0
  Up a = (n : ℕ) → up n ≡ below (core_of a) n

  up_inner : (a : Ty) → goes_inside (kind_of a) ≡ true → Up a → Up (inner_of a)
  up_inner a e s = λ n. s n ∙ ap (λ (c : ℕ). below c n) (sym (core-inner a e))

  same_answers : (a b : Ty) (r : Next) (f g : Ty → Ty → Bool) → Reason a b r → Up a → ((x y : Ty) → Up x → f x y ≡ g x y)
      → answer_by (λ c d. up d) r a b f ≡ answer_by below r a b g
  unfolding Reason
  same_answers a b Yes f g w s h = refl
  same_answers a b No f g w s h = refl
  same_answers a b Left f g w s h = h (inner_of a) b (up_inner a (nullable_inside a w.0) s)
  same_answers a b Right f g w s h = h a (inner_of b) s
  same_answers a b Both f g (inl w, k) s h = h (inner_of a) (inner_of b) (up_inner a (list_inside a w) s)
  same_answers a b Both f g (inr w, k) s h = h (inner_of a) (inner_of b) (up_inner a (array_inside a w) s)
  same_answers a b Classes f g w s h = s (name_of b) ∙ ap (λ (c : ℕ). below c (name_of b)) (named_core a w.0)

  same_in : (f : ℕ) (a b : Ty) → Up a → assign_in (λ c d. up d) f a b ≡ assign_in below f a b
  unfolding assign_in
  same_in zero a b s = refl
  same_in (suc f) a b s =
      same_answers a b (assign_step a b) (λ x y. assign_in (λ c d. up d) f x y) (λ x y. assign_in below f x y) (reason a b) s (λ x y z. same_in f x y z)

  -- assignability from a type asks only for what is above its class
  pub by_core : (a b : Ty) → ((n : ℕ) → up n ≡ below (core_of a) n) → can_assign (λ c d. up d) a b ≡ can_assign below a b
  unfolding can_assign
  by_core a b s = same_in (suc (length a + length b)) a b s
