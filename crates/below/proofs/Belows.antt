-- Laws of `is_below`: in an accepted table the number of steps can be forgotten.
use Prim.Native.Nat.{ℕ, zero, suc, ◌≤◌}
use lib.Dec.{eqb}
use borrow.Author.Tests.{eqb-true, eqb-false}
use mathlib.Core.Bool.{Bool, true, false, ◌||◌}
use mathlib.Core.List.{List}
use mathlib.Core.Logic.{◌↔◌}
use mathlib.Core.Path.{◌≡◌, refl, ◌∙◌}
use native.Mathlib.Omega.{arith}
use Rattle.below.proofs.ParentTests.{way_none, way_some, by_cases}
use Rattle.below.proofs.StepsMet.{within, within_cases, within-met, enough, met-within}
use Rattle.below.specs.Below.{HasParent, Met, by_way_of, met_within, is_below}
use Rattle.record.specs.TableRefused.{table_fault}
use Rattle.symbol.proofs.ClassRuns.{class_run}
use Rattle.symbol.specs.Inside.ClassRun.{ClassRun, rank_of}
use Rattle.symbol.specs.Lookup.{symbols_of}
use Rattle.symbol.specs.Subclass.{climbs, is_subclass}
use Rattle.symbol.specs.Symbols.{Symbols}
use Rattle.ty.proofs.Choice.{or_false}
use Rattle.ty.specs.Choose.{choose}
use Rattle.ty.specs.Name.{no_id}

module _ (S : Symbols) where
  -- where no class has an interface, the ways up are the climbs along superclasses
  module _ (first : (c : ℕ) → S.first_interface_of c ≡ no_id) (second : (c : ℕ) → S.second_interface_of c ≡ no_id) where
    within_climbs : (n a b : ℕ) → within S n a b ≡ climbs S.super_of n a b
    unfolding met_within climbs choose
    within_climbs zero a b = refl
    within_climbs (suc n) a b =
        rw (way_none (S.first_interface_of a) (within S n) b (first a), way_none (S.second_interface_of a) (within S n) b (second a))
        (by_cases (eqb (S.super_of a) no_id)
        (λ e. rw (way_none (S.super_of a) (within S n) b (eqb-true (S.super_of a) no_id e), e))
        (λ e. rw (way_some (S.super_of a) (within S n) b (eqb-false (S.super_of a) no_id e), e) (go (eqb (S.super_of a) b) (within_climbs n (S.super_of a) b))))
      where
        go : (q : Bool) {x y : Bool} → x ≡ y → (q || x) || false ≡ choose q true y
        go true e = refl
        go false {x} {y} e = or_false x false refl ∙ e

    pub below_subclass : (a b : ℕ) → is_below S a b ≡ is_subclass S a b
    unfolding is_below is_subclass
    below_subclass a b = within_climbs S.classes a b

  pub below_then_met : (a b : ℕ) → is_below S a b ≡ true → Met S a b
  unfolding is_below
  below_then_met a b e = within-met S S.classes a b e

  -- where no class has a parent, none is below another
  pub none_below : ((c p : ℕ) → HasParent S c p → ⊥) → (a b : ℕ) → is_below S a b ≡ false
  unfolding is_below met_within
  none_below h a b = go S.classes
    where
      go : (n : ℕ) → within S n a b ≡ false
      go zero = refl
      go (suc n) = by_cases (within S (suc n) a b) (λ u. within_cases S n a b u (λ k. absurd (h a b k)) (λ p k v. absurd (h a p k))) (λ u. u)

module _ (t : List ℕ) (e : table_fault t ≡ 0) where
  run : ClassRun t
  run = class_run t e

  -- one step up
  pub below_up : (a b : ℕ)
      → is_below (symbols_of t) a b
      ≡ by_way_of ((symbols_of t).super_of a) (is_below (symbols_of t)) b
      || (by_way_of ((symbols_of t).first_interface_of a) (is_below (symbols_of t)) b
      || by_way_of ((symbols_of t).second_interface_of a) (is_below (symbols_of t)) b)
  unfolding is_below met_within
  below_up a b =
      enough (symbols_of t) (rank_of t) run.lower (symbols_of t).classes (suc (symbols_of t).classes) a b (run.low a) (omega (arith, run.low a))

  pub met-below : (a b : ℕ) → Met (symbols_of t) a b → is_below (symbols_of t) a b ≡ true
  unfolding is_below
  met-below a b m = met-within (symbols_of t) (rank_of t) run.lower (symbols_of t).classes run.low m

  -- the number of steps forgotten
  pub below-met : (a b : ℕ) → (is_below (symbols_of t) a b ≡ true) ↔ Met (symbols_of t) a b
  below-met a b = (below_then_met (symbols_of t) a b, met-below a b)

  -- any number of steps from the number of classes on is enough
  pub more_steps : (n a b : ℕ) → (symbols_of t).classes ≤ n → within (symbols_of t) n a b ≡ is_below (symbols_of t) a b
  unfolding is_below
  more_steps n a b l =
      enough (symbols_of t) (rank_of t) run.lower n (symbols_of t).classes a b (omega (arith, run.low a)) (run.low a)
