-- Order 5's claims of assignability (specs/Order5Assign): what assigns to an Array of either width.
use Prim.Native.Nat.{ℕ}
use lib.ListN.{drop}
use mathlib.Core.Bool.{Bool, true, false≢true, ◌||◌}
use mathlib.Core.Path.{◌≡◌, refl, sym, ap, ◌∙◌}
use borrow.Author.Tests.{leb-true}
use native.Mathlib.Omega.{arith}
use Rattle.below.specs.Below.{is_below}
use Rattle.operators.proofs.Assigns.{assigns_step}
use Rattle.operators.proofs.AssignSteps.{one_kind, no_array}
use Rattle.operators.proofs.NullablesOpened.{growing_named, same_goes}
use Rattle.operators.specs.Assign.{is_growing, assigns_at_once, assign_step, answer_by, can_assign, assigns}
use Rattle.operators.specs.Operand.{is_kind, numbers}
use Rattle.operators.specs.Order5Assign.{ToArray}
use Rattle.operators.specs.declared.assign.Next.{Next}
use Rattle.symbol.specs.Symbols.{Symbols}
use Rattle.ty.proofs.Bodies.{array_above}
use Rattle.ty.proofs.Choice.{by_choice, and_left, and_right, or_left, or_right, or_cases}
use Rattle.ty.proofs.Order5.{both_widths}
use Rattle.ty.proofs.Same.{same_eq}
use Rattle.ty.specs.Bytes.{Ty, kind_of, is_array, is_numeric, inner_of, same_bytes}
use Rattle.ty.specs.Kind.{double_kind, any_kind, array_kind, list_kind, named_kind, error_kind, large_array_kind}

-- an Array is no number
array_not_numeric : {A : Type 0} (t : Ty) → is_array t ≡ true → is_numeric t ≡ true → A
array_not_numeric t h e =
    let l = array_above (kind_of t) h in
    let m = leb-true (kind_of t) double_kind e in
    absurd (omega arith)

module _ (below : ℕ → ℕ → Bool) (a b : Ty) (k : is_array b ≡ true) where
  -- what holds of a step's answer, whichever the step
  abbrev ByElement : Next → Type 0
  ByElement r = answer_by below r a b (λ x y. can_assign below x y) ≡ can_assign below (inner_of a) (inner_of b)

  -- of the checks that come first only the one of equal types is left, whose elements are equal, too
  at_once : (is_kind any_kind a || is_kind error_kind a ≡ true → ⊥) → assigns_at_once a b ≡ true → true ≡ can_assign below (inner_of a) (inner_of b)
  at_once other e =
      or_cases (same_bytes a b) _ e (λ i. sym (same_goes below (inner_of a) (inner_of b) (ap inner_of (same_eq a b i)))) λ i.
      or_cases (is_kind any_kind b || (is_kind error_kind b || is_kind error_kind a)) _ i
      (λ j. or_cases (is_kind any_kind b) _ j (λ q. no_array any_kind b refl q k)
      (λ m. or_cases (is_kind error_kind b) _ m (λ q. no_array error_kind b refl q k) (λ q. absurd (other (or_right _ _ q)))))
      (λ j. or_cases (is_kind any_kind a) _ j (λ q. absurd (other (or_left _ _ q)))
      (λ m. or_cases (numbers a b) _ m (λ q. array_not_numeric b k (and_right (is_numeric a) _ q))
      (λ q. no_array list_kind b refl (and_right (is_kind list_kind a) _ q) k)))

  by_list : is_kind list_kind a ≡ true → can_assign below a b ≡ can_assign below (inner_of a) (inner_of b)
  unfolding assign_step
  by_list h =
      assigns_step below a b ∙ (
      by_choice ByElement _ (at_once (λ e. or_cases (is_kind any_kind a) _ e (one_kind list_kind any_kind a refl h) (one_kind list_kind error_kind a refl h))) λ _.
      by_choice ByElement _ (λ _. refl) (λ e. absurd (false≢true (sym e ∙ rw (h, k)))))

  by_array : is_array a ≡ true → can_assign below a b ≡ can_assign below (inner_of a) (inner_of b)
  unfolding assign_step
  by_array h =
      assigns_step below a b ∙ (
      by_choice ByElement _ (at_once (λ e. or_cases (is_kind any_kind a) _ e (λ q. no_array any_kind a refl q h) (λ q. no_array error_kind a refl q h))) λ _.
      by_choice ByElement _ (λ _. refl) λ _.
      by_choice ByElement _ (λ e. no_array named_kind a refl (growing_named a (and_left _ _ e)) h) λ _.
      by_choice ByElement _ (λ _. refl) (λ e. absurd (false≢true (sym e ∙ rw (h, k)))))

  by_name : is_growing a ≡ true → can_assign below a b ≡ true
  unfolding assign_step
  by_name h =
      assigns_step below a b ∙ (
      by_choice Goes _ (λ _. refl) λ _.
      by_choice Goes _ (λ e. one_kind named_kind list_kind a refl (growing_named a h) (and_left _ _ e)) λ _.
      by_choice Goes _ (λ _. refl) (λ e. absurd (false≢true (sym e ∙ rw (h, k)))))
    where
      Goes : Next → Type 0
      Goes r = answer_by below r a b (λ x y. can_assign below x y) ≡ true

module _ (S : Symbols) (a b : Ty) where
  pub to_array : ToArray S a b
  to_array = record { from_list = λ k. by_list (is_below S) a b k; from_array = λ k. by_array (is_below S) a b k; from_name = λ k. by_name (is_below S) a b k }

  -- ---- each width's instance
  small_to_large : kind_of a ≡ array_kind → kind_of b ≡ large_array_kind → assigns S a b ≡ assigns S (drop 6 a) (drop 10 b)
  small_to_large h k = rw ((both_widths.four a h).1, (both_widths.eight b k).1) at (to_array.from_array (rw k refl) (rw h refl))

  large_to_small : kind_of a ≡ large_array_kind → kind_of b ≡ array_kind → assigns S a b ≡ assigns S (drop 10 a) (drop 6 b)
  large_to_small h k = rw ((both_widths.eight a h).1, (both_widths.four b k).1) at (to_array.from_array (rw k refl) (rw h refl))

  large_to_large : kind_of a ≡ large_array_kind → kind_of b ≡ large_array_kind → assigns S a b ≡ assigns S (drop 10 a) (drop 10 b)
  large_to_large h k = rw ((both_widths.eight a h).1, (both_widths.eight b k).1) at (to_array.from_array (rw k refl) (rw h refl))

  list_to_large : is_kind list_kind a ≡ true → kind_of b ≡ large_array_kind → assigns S a b ≡ assigns S (inner_of a) (drop 10 b)
  list_to_large h k = rw (both_widths.eight b k).1 at (to_array.from_list (rw k refl) h)
