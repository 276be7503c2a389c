-- Whether any of some classes has a parent. Where none has, no marks are those of these classes.
use Prim.Native.Nat.{ℕ, zero, suc, ◌+◌, ◌≤◌, ◌<◌}
use borrow.Author.Tests.{eqb-true, eqb-false, ne_eqb, leb-true, leb-false, lt-ltb, le-ltb}
use lib.Dec.{eqb, leb, ltb}
use lib.ListN.{length, get_or}
use mathlib.Core.Bool.{Bool, true, false, not, ◌&&◌, ◌||◌, false≢true}
use mathlib.Core.List.{List, [], ◌∷◌}
use mathlib.Core.Logic.{inl, inr}
use mathlib.Core.Path.{◌≡◌, refl, sym, ap, ◌∙◌}
use native.Mathlib.Omega.{arith}
use Rattle.below.proofs.MarkBits.{no_bit}
use Rattle.below.proofs.ParentTests.{by_cases}
use Rattle.below.proofs.ParentsFound.{none_above}
use Rattle.below.proofs.StepsMet.{super-parent, first-parent, second-parent}
use Rattle.below.specs.Below.{HasParent, is_below}
use Rattle.below.specs.Inside.Marks.{has_mark, MarksOf}
use Rattle.below.specs.Inside.RecordParents.{NoParent, has_parent, any_has_parent, ParentedIs}
use Rattle.below.specs.declared.parents.Parented.{Parented}
use Rattle.record.specs.TableRefused.{table_fault}
use Rattle.std.specs.Prelude.{Option, None, Some, MatchOption, is_some}
use Rattle.symbol.specs.Lookup.{symbols_of}
use Rattle.symbol.specs.Symbols.{Symbols}
use Rattle.ty.proofs.Choice.{or_left, or_right}
use Rattle.ty.specs.Name.{no_id}

module _ (S : Symbols) where
  parent_has : {a p : ℕ} → HasParent S a p → has_parent S a ≡ true
  unfolding has_parent
  parent_has {a} (inl e, n) = or_left (not (eqb (S.super_of a) no_id)) _ (ap not (ne_eqb (S.super_of a) no_id (λ z. n (sym e ∙ z))))
  parent_has {a} (inr (inl e), n) =
      or_right (not (eqb (S.super_of a) no_id)) _
      (or_left (not (eqb (S.first_interface_of a) no_id)) _ (ap not (ne_eqb (S.first_interface_of a) no_id (λ z. n (sym e ∙ z)))))
  parent_has {a} (inr (inr e), n) =
      or_right (not (eqb (S.super_of a) no_id)) _
      (or_right (not (eqb (S.first_interface_of a) no_id)) _ (ap not (ne_eqb (S.second_interface_of a) no_id (λ z. n (sym e ∙ z)))))

  none_has : (a : ℕ) → NoParent S a → has_parent S a ≡ false
  unfolding has_parent
  none_has a h = λ i.
      none (S.super_of a) (super-parent S a) i
      || (none (S.first_interface_of a) (first-parent S a) i || none (S.second_interface_of a) (second-parent S a) i)
    where
      none : (q : ℕ) → ((q ≡ no_id → ⊥) → HasParent S a q) → not (eqb q no_id) ≡ false
      none q k = by_cases (eqb q no_id) (λ e. ap not e) (λ e. absurd (h q (k (eqb-false q no_id e))))

  any_found : (classes : List ℕ) (n : ℕ) → n < length classes → has_parent S (get_or classes n 0) ≡ true → any_has_parent S classes ≡ true
  unfolding any_has_parent
  any_found [] n l e = absurd (omega arith)
  any_found (a ∷ classes) zero l e = or_left (has_parent S a) _ e
  any_found (a ∷ classes) (suc n) l e = or_right (has_parent S a) _ (any_found classes n (omega arith) e)

  any_none : (classes : List ℕ) → ((j : ℕ) → j < length classes → NoParent S (get_or classes j 0)) → any_has_parent S classes ≡ false
  unfolding any_has_parent
  any_none [] h = refl
  any_none (a ∷ classes) h = λ i. none_has a (h zero (omega arith)) i || any_none classes (λ j l. h (suc j) (omega arith)) i

  -- no marks are those of no class
  pub no_classes : MarksOf S [] []
  unfolding has_mark
  no_classes = record { say = λ j b. no_bit 0 j refl ∙ sym (ap (λ (z : Bool). z && is_below S 0 b) (le-ltb j 0 (omega arith))) }

module _ (t classes : List ℕ) where
  -- no marks are those of classes without parents
  pub no_marks : ((j : ℕ) → j < length classes → (table_fault t ≡ 0) × NoParent (symbols_of t) (get_or classes j 0)) → MarksOf (symbols_of t) classes []
  unfolding has_mark
  no_marks h = record { say = λ j b. no_bit 0 j refl ∙ by_cases (leb (length classes) j) (later j b) (here j b) }
    where
      later : (j b : ℕ) → leb (length classes) j ≡ true → false ≡ (ltb j (length classes) && is_below (symbols_of t) (get_or classes j 0) b)
      later j b i = sym (ap (λ (z : Bool). z && is_below (symbols_of t) (get_or classes j 0) b) (le-ltb j (length classes) (leb-true (length classes) j i)))

      here : (j b : ℕ) → leb (length classes) j ≡ false → false ≡ (ltb j (length classes) && is_below (symbols_of t) (get_or classes j 0) b)
      here j b i =
          let l = leb-false (length classes) j i in
          none_above t (h j l).0 (get_or classes j 0) b (h j l).1
          ∙ sym (ap (λ (z : Bool). z && is_below (symbols_of t) (get_or classes j 0) b) (lt-ltb j (length classes) l))

  abbrev pub Without : ℕ → Type 0
  Without n = (j : ℕ) → j < n → (table_fault t ≡ 0) × NoParent (symbols_of t) (get_or classes j 0)

  -- one class more without a parent
  pub one_without_more : (n : ℕ) → Without n → (r : Option Parented) → table_fault t ≡ 0
      → MatchOption r (NoParent (symbols_of t) (get_or classes n 0)) (ParentedIs t (get_or classes n 0)) → is_some r ≡ false → Without (n + 1)
  one_without_more n g None e h k j l =
      by_cases (eqb n j) (λ i. (e, rw (eqb-true n j i) at h)) (λ i. g j (let s = eqb-false n j i in omega arith))
  one_without_more n g (Some p) e h k j l = absurd (false≢true (sym k))

  -- one class with a parent
  pub one_with : (n : ℕ) → n < length classes → (r : Option Parented)
      → MatchOption r (NoParent (symbols_of t) (get_or classes n 0)) (ParentedIs t (get_or classes n 0)) → is_some r ≡ true
      → true ≡ any_has_parent (symbols_of t) classes
  one_with n l None h k = absurd (false≢true k)
  one_with n l (Some p) h k =
      let g : ParentedIs t (get_or classes n 0) p = h in
      sym (any_found (symbols_of t) classes n l (parent_has (symbols_of t) g.some.1))

  pub none_with : Without (length classes) → false ≡ any_has_parent (symbols_of t) classes
  none_with g = sym (any_none (symbols_of t) classes (λ j l. (g j l).1))

-- the mark of a class is read; t is the table that a struct with the view s has inside
pub mark_read : (t s classes m : List ℕ) (j c b : ℕ) → t ≡ s → (length classes ≤ 16) × MarksOf (symbols_of t) classes m
    → (j < length classes) × (get_or classes j 0 ≡ c) → has_mark m j b ≡ is_below (symbols_of s) c b
mark_read t s classes m j c b v (k, g) (l, e) =
    g.say j b
    ∙ (ap (λ (z : Bool). z && is_below (symbols_of t) (get_or classes j 0) b) (lt-ltb j (length classes) l)
    ∙ λ i. is_below (symbols_of (v i)) (e i) b)
