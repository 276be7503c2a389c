-- What is met within some steps. Where each parent has a lower rank, any number of steps from the rank on is enough.
use Prim.Native.Nat.{ℕ, zero, suc, ◌≤◌, ◌<◌}
use mathlib.Core.Bool.{Bool, true, false, ◌||◌, false≢true}
use mathlib.Core.Logic.{inl, inr}
use mathlib.Core.Path.{◌≡◌, refl, sym, ap, ◌∙◌}
use native.Mathlib.Omega.{arith}
use Rattle.below.proofs.ParentTests.{parent-test, way_cases, way_met, way_more, way_same, by_cases}
use Rattle.below.specs.Below.{by_way_of, met_within, HasParent, Met, step, then}
use Rattle.symbol.specs.Inside.ClassRun.{is_parent}
use Rattle.symbol.specs.Symbols.{Symbols}
use Rattle.ty.proofs.Choice.{or_left, or_right, or_cases}
use Rattle.ty.specs.Name.{no_id}

module _ (S : Symbols) where
  -- b is met from a within n steps
  abbrev pub within : ℕ → ℕ → ℕ → Bool
  within n a b = met_within S.super_of S.first_interface_of S.second_interface_of n a b

  pub super-parent : (a : ℕ) → (S.super_of a ≡ no_id → ⊥) → HasParent S a (S.super_of a)
  super-parent a n = (inl refl, n)

  pub first-parent : (a : ℕ) → (S.first_interface_of a ≡ no_id → ⊥) → HasParent S a (S.first_interface_of a)
  first-parent a n = (inr (inl refl), n)

  pub second-parent : (a : ℕ) → (S.second_interface_of a ≡ no_id → ⊥) → HasParent S a (S.second_interface_of a)
  second-parent a n = (inr (inr refl), n)

  -- b is met within suc n steps exactly by way of a parent
  pub within_cases : {P : Type 0} (n a b : ℕ) → within (suc n) a b ≡ true → (HasParent S a b → P)
      → ((p : ℕ) → HasParent S a p → within n p b ≡ true → P) → P
  unfolding met_within
  within_cases n a b e f g =
      or_cases (by_way_of (S.super_of a) (within n) b) _ e
      (λ h. way_cases (S.super_of a) (within n) b h (λ k i. f (inl i, λ z. k (i ∙ z))) (λ k u. g (S.super_of a) (super-parent a k) u))
      (λ r. or_cases (by_way_of (S.first_interface_of a) (within n) b) _ r
      (λ h. way_cases (S.first_interface_of a) (within n) b h (λ k i. f (inr (inl i), λ z. k (i ∙ z)))
      (λ k u. g (S.first_interface_of a) (first-parent a k) u))
      (λ h. way_cases (S.second_interface_of a) (within n) b h (λ k i. f (inr (inr i), λ z. k (i ∙ z)))
      (λ k u. g (S.second_interface_of a) (second-parent a k) u)))

  pub within_one : (n a b : ℕ) → HasParent S a b → within (suc n) a b ≡ true
  unfolding met_within
  within_one n a b (inl e, k) = or_left _ _ (way_met (S.super_of a) (within n) b (λ z. k (sym e ∙ z)) e)
  within_one n a b (inr (inl e), k) =
      or_right (by_way_of (S.super_of a) (within n) b) _ (or_left _ _ (way_met (S.first_interface_of a) (within n) b (λ z. k (sym e ∙ z)) e))
  within_one n a b (inr (inr e), k) =
      or_right (by_way_of (S.super_of a) (within n) b) _
      (or_right (by_way_of (S.first_interface_of a) (within n) b) _ (way_met (S.second_interface_of a) (within n) b (λ z. k (sym e ∙ z)) e))

  pub within_more : (n a p b : ℕ) → HasParent S a p → within n p b ≡ true → within (suc n) a b ≡ true
  unfolding met_within
  within_more n a p b (inl e, k) u = or_left _ _ (way_more (S.super_of a) (within n) b (λ z. k (sym e ∙ z)) (ap (λ (z : ℕ). within n z b) e ∙ u))
  within_more n a p b (inr (inl e), k) u =
      or_right (by_way_of (S.super_of a) (within n) b) _
      (or_left _ _ (way_more (S.first_interface_of a) (within n) b (λ z. k (sym e ∙ z)) (ap (λ (z : ℕ). within n z b) e ∙ u)))
  within_more n a p b (inr (inr e), k) u =
      or_right (by_way_of (S.super_of a) (within n) b) _
      (or_right (by_way_of (S.first_interface_of a) (within n) b) _
      (way_more (S.second_interface_of a) (within n) b (λ z. k (sym e ∙ z)) (ap (λ (z : ℕ). within n z b) e ∙ u)))

  -- what is found in some steps is met
  pub within-met : (n a b : ℕ) → within n a b ≡ true → Met S a b
  unfolding met_within
  within-met zero a b e = absurd (false≢true e)
  within-met (suc n) a b e = within_cases n a b e (λ h. step h) (λ p h u. then h (within-met n p b u))

  -- ---- where each parent has a lower rank
  module _ (rank : ℕ → ℕ) (lower : (a p : ℕ) → is_parent S a p ≡ true → rank p < rank a) where
    pub parent_lower : {a p : ℕ} → HasParent S a p → rank p < rank a
    parent_lower {a} {p} h = lower a p (parent-test S h)

    pub no_steps : (n a b : ℕ) → rank a ≤ 0 → within n a b ≡ false
    unfolding met_within
    no_steps zero a b l = refl
    no_steps (suc n) a b l =
        by_cases (within (suc n) a b)
        (λ e. within_cases n a b e (λ h. absurd (omega (arith, parent_lower h))) (λ p h u. absurd (omega (arith, parent_lower h))))
        (λ e. e)

    pub enough : (n m a b : ℕ) → rank a ≤ n → rank a ≤ m → within n a b ≡ within m a b
    unfolding met_within
    enough zero m a b k l = sym (no_steps m a b k)
    enough (suc n) zero a b k l = no_steps (suc n) a b l
    enough (suc n) (suc m) a b k l =
        λ i. way_same (S.super_of a) (within n) (within m) b
        (λ h. enough n m (S.super_of a) b (down n k (super-parent a h)) (down m l (super-parent a h))) i
        || (way_same (S.first_interface_of a) (within n) (within m) b
        (λ h. enough n m (S.first_interface_of a) b (down n k (first-parent a h)) (down m l (first-parent a h))) i
        || way_same (S.second_interface_of a) (within n) (within m) b
        (λ h. enough n m (S.second_interface_of a) b (down n k (second-parent a h)) (down m l (second-parent a h))) i)
      where
        down : (n : ℕ) {p : ℕ} → rank a ≤ suc n → HasParent S a p → rank p ≤ n
        down n h e = let r = parent_lower e in omega arith

    module _ (n : ℕ) (few : (a : ℕ) → rank a ≤ n) where
      pub above_one : (a b : ℕ) → HasParent S a b → within n a b ≡ true
      above_one a b h = enough n (suc n) a b (few a) (omega (arith, few a)) ∙ within_one n a b h

      pub above_more : (a p b : ℕ) → HasParent S a p → within n p b ≡ true → within n a b ≡ true
      above_more a p b h u = enough n (suc n) a b (few a) (omega (arith, few a)) ∙ within_more n a p b h u

      pub above_cases : {P : Type 0} (a b : ℕ) → within n a b ≡ true → (HasParent S a b → P)
          → ((p : ℕ) → HasParent S a p → within n p b ≡ true → P) → P
      above_cases a b e f g = within_cases n a b (enough (suc n) n a b (omega (arith, few a)) (few a) ∙ e) f g

      pub met-within : {a b : ℕ} → Met S a b → within n a b ≡ true
      met-within (step {a = a} {b = b} h) = above_one a b h
      met-within (then {a = a} {c = c} {b = b} h m) = above_more a c b h (met-within m)
