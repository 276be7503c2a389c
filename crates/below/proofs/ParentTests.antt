-- Parents of a class, as a fact and as a test.
use Prim.Native.Nat.{ℕ}
use borrow.Author.Tests.{eqb-true, eqb-false, eq-eqb, ne_eqb}
use lib.Dec.{eqb}
use mathlib.Core.Bool.{Bool, true, false, not, ◌&&◌, ◌||◌, false≢true}
use mathlib.Core.Logic.{inl, inr}
use mathlib.Core.Path.{◌≡◌, refl, sym, ap, ◌∙◌}
use Rattle.below.specs.Below.{by_way_of, HasParent}
use Rattle.symbol.specs.Inside.ClassRun.{is_parent}
use Rattle.symbol.specs.Symbols.{Symbols}
use Rattle.ty.proofs.Choice.{and_left, and_right, or_left, or_right, or_cases}
use Rattle.ty.specs.Name.{no_id}

-- ---- tests
pub by_cases : {P : Type 0} (s : Bool) → (s ≡ true → P) → (s ≡ false → P) → P
by_cases true f g = f refl
by_cases false f g = g refl

pub and_both : (s t : Bool) → s ≡ true → t ≡ true → s && t ≡ true
and_both s t e h = rw (e, h)

-- two tests, of which each holds where the other does
pub same_test : (s t : Bool) → (s ≡ true → t ≡ true) → (t ≡ true → s ≡ true) → s ≡ t
same_test true t f g = sym (f refl)
same_test false true f g = g refl
same_test false false f g = refl

-- ---- what is met by way of a class
pub way_none : (p : ℕ) (above : ℕ → ℕ → Bool) (b : ℕ) → p ≡ no_id → by_way_of p above b ≡ false
unfolding by_way_of
way_none p above b e = rw (eq-eqb p no_id e, by_way_of)

pub way_some : (p : ℕ) (above : ℕ → ℕ → Bool) (b : ℕ) → (p ≡ no_id → ⊥) → by_way_of p above b ≡ eqb p b || above p b
unfolding by_way_of
way_some p above b n = rw (ne_eqb p no_id n, by_way_of)

pub way_cases : {P : Type 0} (p : ℕ) (above : ℕ → ℕ → Bool) (b : ℕ) → by_way_of p above b ≡ true
    → ((p ≡ no_id → ⊥) → p ≡ b → P) → ((p ≡ no_id → ⊥) → above p b ≡ true → P) → P
way_cases p above b e f g =
    by_cases (eqb p no_id)
    (λ h. absurd (false≢true (sym (way_none p above b (eqb-true p no_id h)) ∙ e)))
    (λ h. let n = eqb-false p no_id h in
    or_cases (eqb p b) (above p b) (sym (way_some p above b n) ∙ e) (λ i. f n (eqb-true p b i)) (λ i. g n i))

pub way_met : (p : ℕ) (above : ℕ → ℕ → Bool) (b : ℕ) → (p ≡ no_id → ⊥) → p ≡ b → by_way_of p above b ≡ true
way_met p above b n e = way_some p above b n ∙ or_left (eqb p b) (above p b) (eq-eqb p b e)

pub way_more : (p : ℕ) (above : ℕ → ℕ → Bool) (b : ℕ) → (p ≡ no_id → ⊥) → above p b ≡ true → by_way_of p above b ≡ true
way_more p above b n e = way_some p above b n ∙ or_right (eqb p b) (above p b) e

pub way_same : (p : ℕ) (above further : ℕ → ℕ → Bool) (b : ℕ) → ((p ≡ no_id → ⊥) → above p b ≡ further p b) → by_way_of p above b ≡ by_way_of p further b
way_same p above further b h =
    by_cases (eqb p no_id)
    (λ e. let q = eqb-true p no_id e in way_none p above b q ∙ sym (way_none p further b q))
    (λ e. let n = eqb-false p no_id e in way_some p above b n ∙ (ap (λ (z : Bool). eqb p b || z) (h n) ∙ sym (way_some p further b n)))

-- ---- parents
module _ (S : Symbols) where
  pub parent-test : {a p : ℕ} → HasParent S a p → is_parent S a p ≡ true
  parent-test {a} {p} (inl e, n) = rw (ne_eqb p no_id n, eq-eqb (S.super_of a) p e)
  parent-test {a} {p} (inr (inl e), n) = rw (ne_eqb p no_id n, eq-eqb (S.first_interface_of a) p e) (or_right (eqb (S.super_of a) p) _ refl)
  parent-test {a} {p} (inr (inr e), n) =
      rw (ne_eqb p no_id n, eq-eqb (S.second_interface_of a) p e)
      (or_right (eqb (S.super_of a) p) _ (or_right (eqb (S.first_interface_of a) p) _ refl))

  pub test-parent : {a p : ℕ} → is_parent S a p ≡ true → HasParent S a p
  test-parent {a} {p} h = (
    or_cases (eqb (S.super_of a) p) _ (and_right (not (eqb p no_id)) _ h)
        (λ e. inl (eqb-true (S.super_of a) p e))
        (λ r. or_cases (eqb (S.first_interface_of a) p) _ r
        (λ e. inr (inl (eqb-true (S.first_interface_of a) p e)))
        (λ e. inr (inr (eqb-true (S.second_interface_of a) p e)))),
    λ k. false≢true (sym (ap not (eq-eqb p no_id k)) ∙ and_left (not (eqb p no_id)) _ h),
  )
