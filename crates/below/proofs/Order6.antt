-- The claims of order 6 of classes.
use Prim.Native.Nat.{ℕ, zero, suc, ◌<◌}
use borrow.Author.Tests.{eqb-true, eqb-false}
use lib.Dec.{eqb}
use mathlib.Core.Bool.{Bool, true, false, false≢true}
use mathlib.Core.List.{List}
use mathlib.Core.Logic.{◌⊎◌, inl, inr}
use mathlib.Core.Path.{◌≡◌, refl}
use native.Mathlib.Omega.{arith}
use Rattle.below.proofs.Belows.{below-met, met-below, more_steps, below_subclass}
use Rattle.below.proofs.ParentTests.{parent-test, way_met, way_more}
use Rattle.below.proofs.StepsMet.{within}
use Rattle.below.specs.Below.{HasParent, Met, step, then, by_way_of, met_within, is_below}
use Rattle.below.specs.Order6.{ReachesAlike, BySuperclasses}
use Rattle.record.specs.TableRefused.{table_fault}
use Rattle.symbol.proofs.ClassRuns.{class_run}
use Rattle.symbol.specs.Inside.ClassRun.{rank_of}
use Rattle.symbol.specs.Lookup.{symbols_of}
use Rattle.symbol.specs.Subclass.{climbs, is_subclass}
use Rattle.symbol.specs.Symbols.{Symbols}
use Rattle.ty.proofs.Choice.{or_left}
use Rattle.ty.specs.Choose.{choose}
use Rattle.ty.specs.Name.{no_id}

module _ (t : List ℕ) (e : table_fault t ≡ 0) where
  abbrev S : Symbols
  S = symbols_of t

  -- what is met has a lower rank
  lower_met : {a b : ℕ} → Met S a b → rank_of t b < rank_of t a
  lower_met (step {a = a} {b = b} h) = (class_run t e).lower a b (parent-test S h)
  lower_met (then {a = a} {c = c} {b = b} h m) = let l = (class_run t e).lower a c (parent-test S h) in let k = lower_met m in omega arith

  abbrev ByParent : ℕ → ℕ → Type 0
  ByParent a b = HasParent S a b ⊎ ((p : ℕ) × HasParent S a p × (is_below S p b ≡ true))

  split : {a b : ℕ} → Met S a b → ByParent a b
  split (step h) = inl h
  split (then {c = c} {b = b} h m) = inr (c, h, met-below t e c b m)

  joined : {a b : ℕ} → ByParent a b → Met S a b
  joined (inl h) = step h
  joined {b = b} (inr (p, h, u)) = then h ((below-met t e p b).0 u)

  pub reaches_alike : ReachesAlike t
  reaches_alike =
      record {
        met = λ a b. below-met t e a b;
        by_parent = λ a b. (λ u. split ((below-met t e a b).0 u), λ p. met-below t e a b (joined p));
        long_enough = λ n a b l. more_steps t e n a b l;
        none_itself = λ a m. let l = lower_met m in absurd (omega arith);
      }

module _ (S : Symbols) where
  climbs_within : (n a b : ℕ) → climbs S.super_of n a b ≡ true → within S n a b ≡ true
  unfolding climbs choose met_within
  climbs_within zero a b u = absurd (false≢true u)
  climbs_within (suc n) a b u = go (eqb (S.super_of a) no_id) refl (eqb (S.super_of a) b) refl (climbs_within n (S.super_of a) b) u
    where
      go : (p : Bool) → eqb (S.super_of a) no_id ≡ p → (q : Bool) → eqb (S.super_of a) b ≡ q
          → (climbs S.super_of n (S.super_of a) b ≡ true → within S n (S.super_of a) b ≡ true)
          → choose p false (choose q true (climbs S.super_of n (S.super_of a) b)) ≡ true → within S (suc n) a b ≡ true
      go true i q j r h = absurd (false≢true h)
      go false i true j r h =
          or_left (by_way_of (S.super_of a) (within S n) b) _
          (way_met (S.super_of a) (within S n) b (eqb-false (S.super_of a) no_id i) (eqb-true (S.super_of a) b j))
      go false i false j r h =
          or_left (by_way_of (S.super_of a) (within S n) b) _
          (way_more (S.super_of a) (within S n) b (eqb-false (S.super_of a) no_id i) (r h))

  pub by_superclasses : BySuperclasses S
  unfolding is_below is_subclass
  by_superclasses =
      record {
        more = λ a b u. climbs_within S.classes a b u;
        without_interfaces = λ f g a b. below_subclass S f g a b;
      }
