-- One sweep over the class records finds what is above a class.
use Prim.Native.Nat.{ℕ, zero, suc, ◌≤◌, ◌<◌}
use borrow.Author.Tests.{eqb-true, eq-eqb, ne_eqb, leb-true, leb-false}
use lib.Dec.{eqb, leb}
use mathlib.Core.Bool.{true, false, not, ◌&&◌, ◌||◌, false≢true}
use mathlib.Core.Logic.{inl, inr}
use mathlib.Core.Path.{◌≡◌, refl, sym, ap, ◌∙◌}
use native.Mathlib.Omega.{arith}
use Rattle.below.proofs.ParentTests.{by_cases, and_both, same_test}
use Rattle.below.proofs.StepsMet.{within, parent_lower, above_one, above_more, above_cases}
use Rattle.below.specs.Below.{HasParent}
use Rattle.below.specs.Inside.Marks.{IdSet, no_ids, with_id, with_parents, swept}
use Rattle.symbol.specs.Inside.ClassRun.{is_parent}
use Rattle.symbol.specs.Symbols.{Symbols}
use Rattle.ty.proofs.Choice.{choose_yes, choose_no, and_left, and_right, or_left, or_right, or_false, or_cases}
use Rattle.ty.specs.Choose.{choose}
use Rattle.ty.specs.Name.{no_id}

-- ---- one id more
pub id_cases : {P : Type 0} (m : IdSet) (p b : ℕ) → with_id m p b ≡ true → (m b ≡ true → P) → ((p ≡ no_id → ⊥) → p ≡ b → P) → P
unfolding with_id
id_cases m p b e f g =
    or_cases (m b) _ e f
    (λ h. let n = and_left (not (eqb p no_id)) (eqb p b) h in
    g (λ z. false≢true (sym (ap not (eq-eqb p no_id z)) ∙ n)) (eqb-true p b (and_right (not (eqb p no_id)) (eqb p b) h)))

pub id_kept : (m : IdSet) (p b : ℕ) → m b ≡ true → with_id m p b ≡ true
unfolding with_id
id_kept m p b e = or_left (m b) _ e

pub id_new : (m : IdSet) (p b : ℕ) → (p ≡ no_id → ⊥) → p ≡ b → with_id m p b ≡ true
unfolding with_id
id_new m p b n e = or_right (m b) _ (and_both _ _ (ap not (ne_eqb p no_id n)) (eq-eqb p b e))

pub id_none : (m : IdSet) (p : ℕ) → p ≡ no_id → with_id m p ≡ m
unfolding with_id
id_none m p e = λ i b. same b i
  where
    same : (b : ℕ) → m b || (not (eqb p no_id) && eqb p b) ≡ m b
    same b = rw (eq-eqb p no_id e) (or_false (m b) false refl)

nothing_in : (b : ℕ) → no_ids b ≡ true → ⊥
unfolding no_ids
nothing_in b h = false≢true h

-- what is swept from no ids on is none
pub none_swept : (S : Symbols) (class : ℕ → ℕ) (r : ℕ) → swept S class r no_ids ≡ no_ids
unfolding swept no_ids choose
none_swept S class zero = refl
none_swept S class (suc i) = none_swept S class i

module _ (S : Symbols) where
  -- ---- the parents of a class
  pub parents_cases : {P : Type 0} (m : IdSet) (a b : ℕ) → with_parents S m a b ≡ true → (m b ≡ true → P) → (HasParent S a b → P) → P
  unfolding with_parents
  parents_cases m a b e f g =
      id_cases (with_id (with_id m (S.super_of a)) (S.first_interface_of a)) (S.second_interface_of a) b e
      (λ h. id_cases (with_id m (S.super_of a)) (S.first_interface_of a) b h
      (λ h. id_cases m (S.super_of a) b h f (λ n i. g (inl i, λ z. n (i ∙ z))))
      (λ n i. g (inr (inl i), λ z. n (i ∙ z))))
      (λ n i. g (inr (inr i), λ z. n (i ∙ z)))

  pub parents_kept : (m : IdSet) (a b : ℕ) → m b ≡ true → with_parents S m a b ≡ true
  unfolding with_parents
  parents_kept m a b e =
      id_kept (with_id (with_id m (S.super_of a)) (S.first_interface_of a)) (S.second_interface_of a) b
      (id_kept (with_id m (S.super_of a)) (S.first_interface_of a) b (id_kept m (S.super_of a) b e))

  pub parents_new : (m : IdSet) (a b : ℕ) → HasParent S a b → with_parents S m a b ≡ true
  unfolding with_parents
  parents_new m a b (inl e, n) =
      id_kept (with_id (with_id m (S.super_of a)) (S.first_interface_of a)) (S.second_interface_of a) b
      (id_kept (with_id m (S.super_of a)) (S.first_interface_of a) b (id_new m (S.super_of a) b (λ z. n (sym e ∙ z)) e))
  parents_new m a b (inr (inl e), n) =
      id_kept (with_id (with_id m (S.super_of a)) (S.first_interface_of a)) (S.second_interface_of a) b
      (id_new (with_id m (S.super_of a)) (S.first_interface_of a) b (λ z. n (sym e ∙ z)) e)
  parents_new m a b (inr (inr e), n) =
      id_new (with_id (with_id m (S.super_of a)) (S.first_interface_of a)) (S.second_interface_of a) b (λ z. n (sym e ∙ z)) e

  pub parents_none : (m : IdSet) (a : ℕ) → S.super_of a ≡ no_id → S.first_interface_of a ≡ no_id → S.second_interface_of a ≡ no_id → with_parents S m a ≡ m
  unfolding with_parents
  parents_none m a e f g =
      id_none (with_id (with_id m (S.super_of a)) (S.first_interface_of a)) (S.second_interface_of a) g
      ∙ (id_none (with_id m (S.super_of a)) (S.first_interface_of a) f ∙ id_none m (S.super_of a) e)

  module _ (class : ℕ → ℕ) where
    -- ---- a turn of the sweep
    unfoldable turn : ℕ → IdSet → IdSet
    turn i m = choose (m (class i)) (with_parents S m (class i)) m

    turn_cases : {P : Type 0} (i : ℕ) (m : IdSet) (b : ℕ) → turn i m b ≡ true → (m b ≡ true → P) → (m (class i) ≡ true → HasParent S (class i) b → P) → P
    unfolding turn
    turn_cases i m b e f g =
        by_cases (m (class i))
        (λ h. parents_cases m (class i) b (sym (ap (λ (z : IdSet). z b) (choose_yes (m (class i)) (with_parents S m (class i)) m h)) ∙ e) f (g h))
        (λ h. f (sym (ap (λ (z : IdSet). z b) (choose_no (m (class i)) (with_parents S m (class i)) m h)) ∙ e))

    turn_kept : (i : ℕ) (m : IdSet) (b : ℕ) → m b ≡ true → turn i m b ≡ true
    unfolding turn
    turn_kept i m b e =
        by_cases (m (class i))
        (λ h. ap (λ (z : IdSet). z b) (choose_yes (m (class i)) (with_parents S m (class i)) m h) ∙ parents_kept m (class i) b e)
        (λ h. ap (λ (z : IdSet). z b) (choose_no (m (class i)) (with_parents S m (class i)) m h) ∙ e)

    turn_new : (i : ℕ) (m : IdSet) (a b : ℕ) → class i ≡ a → m a ≡ true → HasParent S a b → turn i m b ≡ true
    unfolding turn
    turn_new i m a b e h p =
        ap (λ (z : IdSet). z b) (choose_yes (m (class i)) (with_parents S m (class i)) m (ap m e ∙ h))
        ∙ (ap (λ (z : ℕ). with_parents S m z b) e ∙ parents_new m a b p)

    swept_kept : (r : ℕ) (m : IdSet) (b : ℕ) → m b ≡ true → swept S class r m b ≡ true
    unfolding swept turn
    swept_kept zero m b e = e
    swept_kept (suc i) m b e = swept_kept i (turn i m) b (turn_kept i m b e)

    module _ (rank : ℕ → ℕ) (lower : (a p : ℕ) → is_parent S a p ≡ true → rank p < rank a) (n : ℕ) (few : (a : ℕ) → rank a ≤ n) where
      -- all that is marked was marked before or is above what was
      swept_cases : {P : Type 0} (r : ℕ) (m : IdSet) (b : ℕ) → swept S class r m b ≡ true → (m b ≡ true → P)
          → ((x : ℕ) → m x ≡ true → within S n x b ≡ true → P) → P
      unfolding swept turn
      swept_cases zero m b e f g = f e
      swept_cases (suc i) m b e f g =
          swept_cases i (turn i m) b e
          (λ h. turn_cases i m b h f (λ k p. g (class i) k (above_one S rank lower n few (class i) b p)))
          (λ x h u. turn_cases i m x h (λ k. g x k u) (λ k p. g (class i) k (above_more S rank lower n few (class i) x b p u)))

      module _ (named : (a i : ℕ) → rank a ≡ suc i → class i ≡ a) where
        -- all that is above a marked class of a record still to come is marked in the end
        swept_above : (r : ℕ) (m : IdSet) (x b : ℕ) → m x ≡ true → rank x ≤ r → within S n x b ≡ true → swept S class r m b ≡ true
        unfolding swept turn
        swept_above zero m x b k l u =
            above_cases S rank lower n few x b u
            (λ p. absurd (omega (arith, parent_lower S rank lower p))) (λ q p v. absurd (omega (arith, parent_lower S rank lower p)))
        swept_above (suc i) m x b k l u =
            by_cases (leb (rank x) i)
            (λ h. swept_above i (turn i m) x b (turn_kept i m x k) (leb-true (rank x) i h) u)
            (λ h. let same : class i ≡ x = named x i (omega (arith, leb-false (rank x) i h)) in
            above_cases S rank lower n few x b u
            (λ p. swept_kept i (turn i m) b (turn_new i m x b same k p))
            (λ q p v. swept_above i (turn i m) q b (turn_new i m x q same k p) (omega (arith, parent_lower S rank lower p)) v))

        -- The parents of a class, swept from so far on that none of them comes later, are exactly the classes above it.
        pub swept_is : (r a b : ℕ) → ((p : ℕ) → HasParent S a p → rank p ≤ r) → swept S class r (with_parents S no_ids a) b ≡ within S n a b
        swept_is r a b l =
            same_test _ _
            (λ h. swept_cases r (with_parents S no_ids a) b h
            (λ k. above_one S rank lower n few a b (parent b k))
            (λ x k u. above_more S rank lower n few a x b (parent x k) u))
            (λ u. above_cases S rank lower n few a b u
            (λ p. swept_kept r (with_parents S no_ids a) b (parents_new no_ids a b p))
            (λ q p v. swept_above r (with_parents S no_ids a) q b (parents_new no_ids a q p) (l q p) v))
          where
            parent : (x : ℕ) → with_parents S no_ids a x ≡ true → HasParent S a x
            parent x k = parents_cases no_ids a x k (λ h. absurd (nothing_in x h)) (λ p. p)
