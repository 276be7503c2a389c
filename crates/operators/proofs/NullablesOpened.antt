-- Nullables opened together. What a type assigns to, and what assigns to it, does not change where a Nullable on the side that is opened goes.
use Prim.Native.Nat.{ℕ, zero, suc, ◌+◌, ◌<◌}
use borrow.Author.Tests.{eqb-true}
use Rattle.std.specs.List.{prefix_len}
use lib.Dec.{leb, eqb}
use lib.ListN.{length, take, drop, length-drop}
use mathlib.Core.Bool.{Bool, true, false, false≢true, cond, ◌||◌}
use mathlib.Core.List.{[], ◌∷◌}
use mathlib.Core.Path.{◌≡◌, refl, sym, ap, ◌∙◌}
use native.Mathlib.Nat.{not-suc-le-zero}
use native.Mathlib.Omega.{arith}
use Rattle.operators.proofs.Assigns.{yes_is, no_is, both_is, climb_is, both_shorter}
use Rattle.operators.proofs.Assigns.{Reason, reason_by, some, assigns_step, assigns_by}
use Rattle.operators.proofs.AssignSteps.{one_kind, no_array, yes_or, step_right, step_left}
use Rattle.operators.specs.Assign.{is_named, is_growing, is_list_name, assigns_at_once, assign_step, answer_by, can_assign}
use Rattle.operators.specs.Inside.Nullables.{nullables}
use Rattle.operators.specs.Operand.{is_kind, numbers}
use Rattle.operators.specs.declared.assign.Next.TheVariants.{Yes, Left, Right}
use Rattle.operators.specs.declared.assign.Next.{Next}
use Rattle.ty.proofs.Choice.{by_choice, choose_yes, and_left, and_right, or_left, or_right, or_cases}
use Rattle.ty.proofs.Held.{inner_shorter}
use Rattle.ty.proofs.Same.{same_eq, same_refl}
use Rattle.ty.specs.Bytes.{Ty, kind_of, is_array, is_numeric, inner_of, same_bytes}
use Rattle.ty.specs.Choose.{choose}
use Rattle.ty.specs.Kind.{double_kind, nullable_kind, any_kind, error_kind, list_kind, named_kind}
use Rattle.ty.specs.Name.{list_id, array_list_id}

-- ---- how many there are, one by one
nullables_none : nullables [] ≡ 0
unfolding nullables
nullables_none = refl

pub nullables_first : (k : ℕ) (t : Ty) → nullables (k ∷ t) ≡ choose (eqb k nullable_kind) (suc (nullables t)) 0
unfolding nullables choose
nullables_first k t = go (eqb k nullable_kind)
  where
    more : ℕ
    more = prefix_len (λ j. eqb j nullable_kind) t

    go : (q : Bool) → length (take (cond q (1 + more) 0) (k ∷ t)) ≡ choose q (suc (length (take more t))) 0
    go true = let s : 1 + more ≡ suc more = omega arith in rw s
    go false = refl

-- behind them a Nullable is shorter
pub opened_shorter : (t : Ty) → is_kind nullable_kind t ≡ true → length (drop (nullables t) t) < length t
unfolding choose
opened_shorter [] e = absurd (false≢true e)
opened_shorter (k ∷ t) e = rw (nullables_first k t, e) (simp length-drop (omega arith))

-- what stands under all Nullables
abbrev inside : Ty → Ty
inside t = drop (nullables t) t

-- it stands under the first one too
inside-first : (t : Ty) → is_kind nullable_kind t ≡ true → inside t ≡ inside (inner_of t)
unfolding choose inner_of
inside-first [] e = absurd (false≢true e)
inside-first (k ∷ t) e = rw (nullables_first k t, eqb-true k nullable_kind e)

inside_none : (t : Ty) → is_kind nullable_kind t ≡ false → inside t ≡ t
unfolding choose
inside_none [] e = rw nullables_none
inside_none (k ∷ t) e = rw (nullables_first k t, e)

not_numeric : {A : Type 0} (t : Ty) → is_kind nullable_kind t ≡ true → is_numeric t ≡ true → A
not_numeric t h e = absurd (false≢true (sym (ap (λ (k : ℕ). leb k double_kind) (eqb-true (kind_of t) nullable_kind h)) ∙ e))

pub growing_named : (t : Ty) → is_growing t ≡ true → is_kind named_kind t ≡ true
growing_named t e = or_cases (is_named array_list_id t) _ e (λ i. and_left _ _ i) (λ i. and_left _ _ i)

list-named : (t : Ty) → is_list_name t ≡ true → is_kind named_kind t ≡ true
list-named t e = or_cases (is_named list_id t) _ e (λ i. and_left _ _ i) (λ i. growing_named t i)

module _ (below : ℕ → ℕ → Bool) where
  -- ---- the checks that come first
  at_once : (a b : Ty) → assigns_at_once a b ≡ true → can_assign below a b ≡ true
  unfolding assign_step
  at_once a b e = assigns_by below a b Yes (sym (choose_yes _ _ _ e))

  from-error : (a b : Ty) → is_kind error_kind a ≡ true → can_assign below a b ≡ true
  from-error a b e = at_once a b (or_right (same_bytes a b) _ (or_left _ _ (or_right (is_kind any_kind b) _ (or_right (is_kind error_kind b) _ e))))

  from-any : (a b : Ty) → is_kind any_kind a ≡ true → can_assign below a b ≡ true
  from-any a b e = at_once a b (or_right (same_bytes a b) _ (or_right (is_kind any_kind b || (is_kind error_kind b || is_kind error_kind a)) _ (or_left _ _ e)))

  to_any : (a b : Ty) → is_kind any_kind b ≡ true → can_assign below a b ≡ true
  to_any a b e = at_once a b (or_right (same_bytes a b) _ (or_left _ _ (or_left _ _ e)))

  to_error : (a b : Ty) → is_kind error_kind b ≡ true → can_assign below a b ≡ true
  to_error a b e = at_once a b (or_right (same_bytes a b) _ (or_left _ _ (or_right (is_kind any_kind b) _ (or_left _ _ e))))

  pub same_goes : (a b : Ty) → a ≡ b → can_assign below a b ≡ true
  same_goes a b e = at_once a b (or_left (same_bytes a b) _ (rw e (same_refl b)))

  -- types that are the same under all their Nullables assign to each other
  inside_goes : (n : ℕ) (a b : Ty) → length a + length b < n → inside a ≡ inside b → can_assign below a b ≡ true
  inside_goes zero a b l e = absurd (not-suc-le-zero l)
  inside_goes (suc n) a b l e = go (is_kind nullable_kind b) refl (is_kind nullable_kind a) refl (inside_goes n)
    where
      go : (q : Bool) → is_kind nullable_kind b ≡ q → (p : Bool) → is_kind nullable_kind a ≡ p
          → ((x y : Ty) → length x + length y < n → inside x ≡ inside y → can_assign below x y ≡ true) → can_assign below a b ≡ true
      go true i p j ih =
          let s = inner_shorter b (some b nullable_kind (omega arith) i) in
          yes_or a b below Right (step_right a b i) (ih a (inner_of b) (omega arith) (e ∙ inside-first b i))
      go false i true j ih =
          let s = inner_shorter a (some a nullable_kind (omega arith) j) in
          yes_or a b below Left (step_left a b j i) (ih (inner_of a) b (omega arith) (sym (inside-first a j) ∙ e))
      go false i false j ih = same_goes a b (sym (inside_none a j) ∙ e ∙ inside_none b i)

  -- ---- one Nullable
  module _ (a b : Ty) where
    abbrev To : Ty → Ty → Next → Type 0
    To x y r = answer_by below r a b (λ v w. can_assign below v w) ≡ can_assign below x y

    right_at_once : is_kind nullable_kind b ≡ true → assigns_at_once a b ≡ true → can_assign below a (inner_of b) ≡ true
    right_at_once h e =
        or_cases (same_bytes a b) _ e (λ i. inside_goes (suc (length a + length (inner_of b))) a (inner_of b) (omega arith) (ap inside (same_eq a b i) ∙ inside-first b h)) λ i.
        or_cases (is_kind any_kind b || (is_kind error_kind b || is_kind error_kind a)) _ i
        (λ j. or_cases (is_kind any_kind b) _ j (one_kind nullable_kind any_kind b refl h)
        (λ k. or_cases (is_kind error_kind b) _ k (one_kind nullable_kind error_kind b refl h) (from-error a (inner_of b))))
        (λ j. or_cases (is_kind any_kind a) _ j (from-any a (inner_of b))
        (λ k. or_cases (numbers a b) _ k (λ l. not_numeric b h (and_right (is_numeric a) _ l))
        (λ l. one_kind nullable_kind list_kind b refl h (and_right (is_kind list_kind a) _ l))))

    right_one : is_kind nullable_kind b ≡ true → can_assign below a b ≡ can_assign below a (inner_of b)
    unfolding assign_step
    right_one h =
        assigns_step below a b ∙ (
        by_choice (To a (inner_of b)) _ (λ e. sym (right_at_once h e)) λ _.
        by_choice (To a (inner_of b)) _ (λ e. no_array nullable_kind b refl h (and_right (is_kind list_kind a) _ e)) λ _.
        by_choice (To a (inner_of b)) _ (λ e. no_array nullable_kind b refl h (and_right (is_growing a) _ e)) λ _.
        by_choice (To a (inner_of b)) _ (λ e. no_array nullable_kind b refl h (and_right (is_array a) _ e)) λ _.
        by_choice (To a (inner_of b)) _ (λ e. no_list_name (and_right (is_list_name a) _ e)) λ _.
        by_choice (To a (inner_of b)) _ (λ e. no_list_name (or_right (is_kind list_kind b) _ (and_right (is_kind list_kind a) _ e))) λ _.
        by_choice (To a (inner_of b)) _ (λ _. refl) (λ e. absurd (false≢true (sym e ∙ h))))
      where
        no_list_name : {A : Type 0} → is_kind list_kind b || is_list_name b ≡ true → A
        no_list_name e = or_cases (is_kind list_kind b) _ e (one_kind nullable_kind list_kind b refl h) (λ i. one_kind nullable_kind named_kind b refl h (list-named b i))

    left_at_once : is_kind nullable_kind a ≡ true → is_kind nullable_kind b ≡ false → assigns_at_once a b ≡ true → can_assign below (inner_of a) b ≡ true
    left_at_once h n e =
        or_cases (same_bytes a b) _ e (λ i. absurd (false≢true (sym n ∙ rw (← same_eq a b i) h))) λ i.
        or_cases (is_kind any_kind b || (is_kind error_kind b || is_kind error_kind a)) _ i
        (λ j. or_cases (is_kind any_kind b) _ j (to_any (inner_of a) b)
        (λ k. or_cases (is_kind error_kind b) _ k (to_error (inner_of a) b) (one_kind nullable_kind error_kind a refl h)))
        (λ j. or_cases (is_kind any_kind a) _ j (one_kind nullable_kind any_kind a refl h)
        (λ k. or_cases (numbers a b) _ k (λ l. not_numeric a h (and_left _ _ l))
        (λ l. one_kind nullable_kind list_kind a refl h (and_left _ _ l))))

    left_one : is_kind nullable_kind a ≡ true → is_kind nullable_kind b ≡ false → can_assign below a b ≡ can_assign below (inner_of a) b
    unfolding assign_step
    left_one h n =
        assigns_step below a b ∙ (
        by_choice (To (inner_of a) b) _ (λ e. sym (left_at_once h n e)) λ _.
        by_choice (To (inner_of a) b) _ (λ e. one_kind nullable_kind list_kind a refl h (and_left _ _ e)) λ _.
        by_choice (To (inner_of a) b) _ (λ e. one_kind nullable_kind named_kind a refl h (growing_named a (and_left _ _ e))) λ _.
        by_choice (To (inner_of a) b) _ (λ e. no_array nullable_kind a refl h (and_left _ _ e)) λ _.
        by_choice (To (inner_of a) b) _ (λ e. one_kind nullable_kind named_kind a refl h (list-named a (and_left _ _ e))) λ _.
        by_choice (To (inner_of a) b) _ (λ e. one_kind nullable_kind list_kind a refl h (and_left _ _ e)) λ _.
        by_choice (To (inner_of a) b) _ (λ e. absurd (false≢true (sym n ∙ e))) λ _.
        by_choice (To (inner_of a) b) _ (λ _. refl) (λ e. absurd (false≢true (sym e ∙ h))))

  -- ---- all of them
  inner_first : (k : ℕ) (t : Ty) → eqb k nullable_kind ≡ true → inner_of (k ∷ t) ≡ t
  unfolding inner_of choose
  inner_first k t e = rw (eqb-true k nullable_kind e)

  pub opened_right : (a b : Ty) → can_assign below a b ≡ can_assign below a (drop (nullables b) b)
  unfolding choose
  opened_right a [] = rw nullables_none
  opened_right a (k ∷ b) = rw (nullables_first k b) (go (eqb k nullable_kind) refl (opened_right a b))
    where
      go : (q : Bool) → eqb k nullable_kind ≡ q → can_assign below a b ≡ can_assign below a (inside b)
          → can_assign below a (k ∷ b) ≡ can_assign below a (drop (choose q (suc (nullables b)) 0) (k ∷ b))
      go true e ih = right_one a (k ∷ b) e ∙ ap (λ (t : Ty). can_assign below a t) (inner_first k b e) ∙ ih
      go false e ih = refl

  pub opened_left : (a b : Ty) → is_kind nullable_kind b ≡ false → can_assign below a b ≡ can_assign below (drop (nullables a) a) b
  unfolding choose
  opened_left [] b n = rw nullables_none
  opened_left (k ∷ a) b n = rw (nullables_first k a) (go (eqb k nullable_kind) refl (opened_left a b n))
    where
      go : (q : Bool) → eqb k nullable_kind ≡ q → can_assign below a b ≡ can_assign below (inside a) b
          → can_assign below (k ∷ a) b ≡ can_assign below (drop (choose q (suc (nullables a)) 0) (k ∷ a)) b
      go true e ih = left_one (k ∷ a) b e n ∙ ap (λ (t : Ty). can_assign below t b) (inner_first k a e) ∙ ih
      go false e ih = refl

-- ---- as a step says that they are to be opened
module _ (a b : Ty) where
  pub left_opened : (below : ℕ → ℕ → Bool) → Left ≡ assign_step a b → can_assign below a b ≡ can_assign below (drop (nullables a) a) b
  unfolding Reason
  left_opened below e = opened_left below a b (reason_by a b Left e).1

  pub left_falls : Left ≡ assign_step a b → length (drop (nullables a) a) < length a
  unfolding Reason
  left_falls e = opened_shorter a (reason_by a b Left e).0

  pub right_falls : Right ≡ assign_step a b → length (drop (nullables b) b) < length b
  unfolding Reason
  right_falls e = opened_shorter b (reason_by a b Right e)

-- ---- for the code
-- each step of `can_assign_to`
pub ruleset assign_steps = (yes_is, no_is, both_is, climb_is, both_shorter, opened_right, left_opened, left_falls, right_falls)
