-- The parents of a class, found by its record and marked.
use Prim.Native.Nat.{ℕ, zero, suc, ◌<◌}
use borrow.Author.Tests.{eqb-true, eqb-false}
use lib.Dec.{eqb}
use mathlib.Core.Bool.{Bool, true, false, ◌&&◌, false≢true}
use mathlib.Core.List.{List}
use mathlib.Core.Logic.{◌⊎◌, inl, inr}
use mathlib.Core.Path.{◌≡◌, refl, sym, ap, ◌∙◌}
use native.Mathlib.Omega.{arith}
use Rattle.symbol.proofs.ClassRuns.{class_run}
use Rattle.below.proofs.ParentTests.{by_cases, parent-test}
use Rattle.below.proofs.StepsMet.{super-parent, first-parent, second-parent, within, above_cases}
use Rattle.below.proofs.Sweeps.{parents_none}
use Rattle.below.specs.Below.{HasParent, is_below}
use Rattle.below.specs.Inside.Marks.{id_count, IdSet, with_parents_if}
use Rattle.below.specs.Inside.RecordParents.{ParentsOf, ParentsBelow, NoParent, ParentedIs, ParentsEarly}
use Rattle.below.specs.declared.parents.Parented.{Parented}
use Rattle.below.specs.declared.parents.Parents.{Parents}
use Rattle.record.specs.TableRefused.{table_fault}
use Rattle.std.specs.Prelude.{None, Some}
use Rattle.symbol.specs.Inside.ClassRun.{class_at, rank_of, number_by}
use Rattle.symbol.specs.Lookup.{symbols_of}
use Rattle.symbol.specs.Symbols.{Symbols}
use Rattle.ty.proofs.Choice.{and_left, and_right}
use Rattle.ty.specs.Choose.{choose}
use Rattle.ty.specs.Name.{no_id}

-- where the parents of a class are not all none, it has one
some_parent : (S : Symbols) (a : ℕ) (p : Parents) → ParentsOf S a p
    → eqb p.superclass no_id && (eqb p.first_interface no_id && eqb p.second_interface no_id) ≡ false → (q : ℕ) × HasParent S a q
some_parent S a p g e =
    by_cases (eqb p.superclass no_id)
    (λ f. by_cases (eqb p.first_interface no_id)
    (λ h. by_cases (eqb p.second_interface no_id)
    (λ k. absurd (false≢true (sym e ∙ λ i. f i && (h i && k i))))
    (λ k. (p.second_interface, (inr (inr (sym g.second_interface)), eqb-false p.second_interface no_id k))))
    (λ h. (p.first_interface, (inr (inl (sym g.first_interface)), eqb-false p.first_interface no_id h))))
    (λ f. (p.superclass, (inl (sym g.superclass), eqb-false p.superclass no_id f)))

module _ (t : List ℕ) (e : table_fault t ≡ 0) (a : ℕ) where
  rank_found : (i r : ℕ) → number_by r ≡ Some i → r ≡ suc i
  rank_found i zero h = absurd (cc)
  rank_found i (suc j) h = ap suc (cc)

  pub class_found : (i : ℕ) → Some i ≡ number_by (rank_of t a) → (rank_of t a ≡ suc i) × (i < (symbols_of t).classes) × (class_at t i ≡ a)
  class_found i h =
      let k : rank_of t a ≡ suc i = rank_found i (rank_of t a) (sym h) in
      let l = (class_run t e).low a in
      (k, omega arith, (class_run t e).named a i k)

  none_found : (r : ℕ) → number_by r ≡ None → r ≡ 0
  none_found zero h = refl
  none_found (suc j) h = absurd (cc)

  pub no_record : None ≡ number_by (rank_of t a) → NoParent (symbols_of t) a
  no_record h p k =
      let z = none_found (rank_of t a) (sym h) in
      let l = (class_run t e).lower a p (parent-test (symbols_of t) k) in
      omega arith

  pub parented_is : (i : ℕ) → Some i ≡ number_by (rank_of t a) → (p : Parents) → ParentsOf (symbols_of t) (class_at t i) p → ParentsBelow id_count p
      → eqb p.superclass no_id && (eqb p.first_interface no_id && eqb p.second_interface no_id) ≡ false
      → ParentedIs t a (record { number = i; parents = p })
  parented_is i h p g b n =
      let f = class_found i h in
      let own : ParentsOf (symbols_of t) a p = rw f.2 at g in
      record { rank = f.0; there = f.1; parents = own; below = b; some = some_parent (symbols_of t) a p own n }

  pub early_found : (r : Parented) → ParentedIs t a r → ParentsEarly t a r.number
  early_found r g =
      record {
        accepted = e;
        few = let h = g.there in omega arith;
        early = λ p k. let l = (class_run t e).lower a p (parent-test (symbols_of t) k) in let h = g.rank in omega arith;
      }

  pub early_none : NoParent (symbols_of t) a → ParentsEarly t a 0
  early_none n = record { accepted = e; few = omega arith; early = λ p k. absurd (n p k) }

pub no_parents : (S : Symbols) (a : ℕ) (p : Parents) → ParentsOf S a p
    → eqb p.superclass no_id && (eqb p.first_interface no_id && eqb p.second_interface no_id) ≡ true → NoParent S a
no_parents S a p g e q (k, n) =
    let h = and_right (eqb p.superclass no_id) (eqb p.first_interface no_id && eqb p.second_interface no_id) e in
    go (eqb-true p.superclass no_id (and_left (eqb p.superclass no_id) _ e))
    (eqb-true p.first_interface no_id (and_left (eqb p.first_interface no_id) (eqb p.second_interface no_id) h))
    (eqb-true p.second_interface no_id (and_right (eqb p.first_interface no_id) (eqb p.second_interface no_id) h)) k
  where
    go : p.superclass ≡ no_id → p.first_interface ≡ no_id → p.second_interface ≡ no_id
        → (S.super_of a ≡ q) ⊎ ((S.first_interface_of a ≡ q) ⊎ (S.second_interface_of a ≡ q)) → ⊥
    go x y z (inl w) = n (sym w ∙ (sym g.superclass ∙ x))
    go x y z (inr (inl w)) = n (sym w ∙ (sym g.first_interface ∙ y))
    go x y z (inr (inr w)) = n (sym w ∙ (sym g.second_interface ∙ z))

-- where a class has no parent, marking its parents leaves the marks
pub parents_left : (S : Symbols) (a : ℕ) → NoParent S a → (v : Bool) (m : IdSet) → m ≡ with_parents_if S v m a
unfolding choose
parents_left S a n false m = refl
parents_left S a n true m =
    sym (parents_none S m a (none (S.super_of a) (super-parent S a)) (none (S.first_interface_of a) (first-parent S a))
    (none (S.second_interface_of a) (second-parent S a)))
  where
    none : (q : ℕ) → ((q ≡ no_id → ⊥) → HasParent S a q) → q ≡ no_id
    none q h = by_cases (eqb q no_id) (λ i. eqb-true q no_id i) (λ i. absurd (n q (h (eqb-false q no_id i))))

-- nothing is above a class without parents
pub none_above : (t : List ℕ) → table_fault t ≡ 0 → (a b : ℕ) → NoParent (symbols_of t) a → false ≡ is_below (symbols_of t) a b
unfolding is_below
none_above t e a b n =
    let run = class_run t e in
    by_cases (within (symbols_of t) (symbols_of t).classes a b)
    (λ u. absurd (above_cases (symbols_of t) (rank_of t) run.lower (symbols_of t).classes run.low a b u (λ p. n b p) (λ q p v. n q p)))
    (λ u. sym u)
