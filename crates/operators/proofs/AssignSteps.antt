-- Which step assignability takes, by the kinds of two types.
use Prim.Native.Nat.{ℕ}
use borrow.Author.Tests.{eqb-true}
use lib.Dec.{eqb}
use mathlib.Core.Bool.{Bool, true, false, false≢true}
use mathlib.Core.Logic.{◌⊎◌, inl, inr}
use mathlib.Core.Path.{◌≡◌, refl, sym, ◌∙◌}
use Rattle.operators.proofs.Assigns.{assigns_by}
use Rattle.operators.specs.Assign.{assign_step, answer_by, can_assign}
use Rattle.operators.specs.Operand.{is_kind}
use Rattle.operators.specs.declared.assign.Next.TheVariants.{Yes, Left, Right, Both, Classes}
use Rattle.operators.specs.declared.assign.Next.{Next}
use Rattle.ty.proofs.Choice.{by_choice, and_left, and_right}
use Rattle.ty.specs.Bytes.{Ty, kind_of, is_array_kind, is_array}
use Rattle.ty.specs.Kind.{nullable_kind, list_kind, named_kind}

-- a type has one kind
pub one_kind : {A : Type 0} (k m : ℕ) (t : Ty) → eqb k m ≡ false → is_kind k t ≡ true → is_kind m t ≡ true → A
one_kind k m t d e h = absurd (false≢true (sym d ∙ rw (← eqb-true (kind_of t) k e) h))

-- and an Array is of no kind but its two
pub no_array : {A : Type 0} (k : ℕ) (t : Ty) → is_array_kind k ≡ false → is_kind k t ≡ true → is_array t ≡ true → A
no_array k t d e h = absurd (false≢true (sym d ∙ rw (← eqb-true (kind_of t) k e) h))

-- a step is yes, or the one that is named
abbrev pub YesOr : Next → Next → Type 0
YesOr r s = (s ≡ Yes) ⊎ (s ≡ r)

module _ (a b : Ty) where
  -- ---- the steps by kind
  pub step_arrays : (is_kind list_kind a ≡ true) ⊎ (is_array a ≡ true) → is_array b ≡ true → YesOr Both (assign_step a b)
  unfolding assign_step
  step_arrays (inl h) k =
      by_choice (YesOr Both) _ (λ _. inl refl) λ _.
      by_choice (YesOr Both) _ (λ _. inr refl) (λ e. absurd (false≢true (sym e ∙ rw (h, k))))
  step_arrays (inr h) k =
      by_choice (YesOr Both) _ (λ _. inl refl) λ _.
      by_choice (YesOr Both) _ (λ _. inr refl) λ _.
      by_choice (YesOr Both) _ (λ _. inl refl) λ _.
      by_choice (YesOr Both) _ (λ _. inr refl) (λ e. absurd (false≢true (sym e ∙ rw (h, k))))

  pub step_right : is_kind nullable_kind b ≡ true → YesOr Right (assign_step a b)
  unfolding assign_step
  step_right h =
      by_choice (YesOr Right) _ (λ _. inl refl) λ _.
      by_choice (YesOr Right) _ (λ e. no_array nullable_kind b refl h (and_right (is_kind list_kind a) _ e)) λ _.
      by_choice (YesOr Right) _ (λ _. inl refl) λ _.
      by_choice (YesOr Right) _ (λ e. no_array nullable_kind b refl h (and_right (is_array a) _ e)) λ _.
      by_choice (YesOr Right) _ (λ _. inl refl) λ _.
      by_choice (YesOr Right) _ (λ _. inl refl) λ _.
      by_choice (YesOr Right) _ (λ _. inr refl) (λ e. absurd (false≢true (sym e ∙ h)))

  pub step_left : is_kind nullable_kind a ≡ true → is_kind nullable_kind b ≡ false → YesOr Left (assign_step a b)
  unfolding assign_step
  step_left h k =
      by_choice (YesOr Left) _ (λ _. inl refl) λ _.
      by_choice (YesOr Left) _ (λ e. one_kind nullable_kind list_kind a refl h (and_left _ _ e)) λ _.
      by_choice (YesOr Left) _ (λ _. inl refl) λ _.
      by_choice (YesOr Left) _ (λ e. no_array nullable_kind a refl h (and_left _ _ e)) λ _.
      by_choice (YesOr Left) _ (λ _. inl refl) λ _.
      by_choice (YesOr Left) _ (λ _. inl refl) λ _.
      by_choice (YesOr Left) _ (λ e. absurd (false≢true (sym k ∙ e))) λ _.
      by_choice (YesOr Left) _ (λ _. inr refl) (λ e. absurd (false≢true (sym e ∙ h)))

  pub step_climb : is_kind named_kind a ≡ true → is_kind named_kind b ≡ true → YesOr Classes (assign_step a b)
  unfolding assign_step
  step_climb h k =
      by_choice (YesOr Classes) _ (λ _. inl refl) λ _.
      by_choice (YesOr Classes) _ (λ e. one_kind named_kind list_kind a refl h (and_left _ _ e)) λ _.
      by_choice (YesOr Classes) _ (λ _. inl refl) λ _.
      by_choice (YesOr Classes) _ (λ e. no_array named_kind a refl h (and_left _ _ e)) λ _.
      by_choice (YesOr Classes) _ (λ _. inl refl) λ _.
      by_choice (YesOr Classes) _ (λ _. inl refl) λ _.
      by_choice (YesOr Classes) _ (λ e. one_kind named_kind nullable_kind b refl k e) λ _.
      by_choice (YesOr Classes) _ (λ e. one_kind named_kind nullable_kind a refl h e) λ _.
      by_choice (YesOr Classes) _ (λ _. inl refl) λ _.
      by_choice (YesOr Classes) _ (λ _. inr refl) (λ e. absurd (false≢true (sym e ∙ rw (h, k))))

  -- where the step that is named says yes, so does assignability
  pub yes_or : (below : ℕ → ℕ → Bool) (r : Next) → YesOr r (assign_step a b) → answer_by below r a b (λ x y. can_assign below x y) ≡ true
      → can_assign below a b ≡ true
  yes_or below r (inl e) h = assigns_by below a b Yes (sym e)
  yes_or below r (inr e) h = assigns_by below a b r (sym e) ∙ h
