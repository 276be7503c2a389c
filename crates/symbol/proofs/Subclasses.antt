-- The climb along superclasses: in an accepted table as many steps as there are classes are enough, and a loop climbs along.
use Prim.Native.Nat.{ℕ, zero, suc, ◌≤◌, ◌<◌}
use mathlib.Core.Path.{◌≡◌, refl, sym, ap, ◌∙◌}
use mathlib.Core.Bool.{Bool, true, false}
use mathlib.Core.List.{List}
use native.Mathlib.Omega.{arith}
use lib.Dec.{eqb}
use borrow.Author.Tests.{eqb-false, eq-eqb, ne_eqb}
use Rattle.std.specs.Prelude.{Option, None, Some}
use Rattle.ty.proofs.Known.{none_known, some_known, number_known}
use Rattle.ty.specs.Choose.{choose}
use Rattle.ty.specs.Name.{no_id, known_id, id_number}
use Rattle.symbol.specs.Lookup.{symbols_of}
use Rattle.record.specs.TableRefused.{table_fault}
use Rattle.symbol.specs.Subclass.{climbs, is_subclass}
use Rattle.symbol.proofs.Ranks.{class_rank, super_lower, height, super_below}
use Rattle.symbol.specs.Inside.ClassRun.{rank_of}

unfoldable pub less : ℕ → ℕ
less zero = zero
less (suc n) = n

-- what is said once the superclass c is known, with n steps left behind it
abbrev met : List ℕ → ℕ → ℕ → ℕ → Bool
met t n c above = choose (eqb c no_id) false (choose (eqb c above) true (climbs (symbols_of t).super_of n c above))

-- the climb from `class` has come to c
pub record Climbing (t : List ℕ) (class above c : ℕ) : Type 0 where
  pub fuel : ℕ
  pub left : (c ≡ no_id → ⊥) → rank_of t c ≤ fuel
  pub same : is_subclass (symbols_of t) class above ≡ met t fuel c above

-- the same where c may be none
pub record ClimbingAt (t : List ℕ) (class above : ℕ) (c : Option ℕ) : Type 0 where
  pub super : ℕ
  pub is : c ≡ known_id super
  pub climbing : Climbing t class above super

module _ (t : List ℕ) (e : table_fault t ≡ 0) (above : ℕ) where
  -- a class of rank 0 has no superclass
  no_super_lem : (c : ℕ) → rank_of t c ≤ 0 → eqb ((symbols_of t).super_of c) no_id ≡ true
  no_super_lem c l = go (eqb ((symbols_of t).super_of c) no_id) refl
    where
      go : (b : Bool) → eqb ((symbols_of t).super_of c) no_id ≡ b → eqb ((symbols_of t).super_of c) no_id ≡ true
      go true i = i
      go false i = absurd (omega (arith, super_lower t e c (eqb-false _ _ i)))

  -- one class up
  up : (n c : ℕ) → rank_of t c ≤ n → climbs (symbols_of t).super_of n c above ≡ met t (less n) ((symbols_of t).super_of c) above
  unfolding climbs choose less
  up zero c l = rw (no_super_lem c l)
  up (suc n) c l = refl

  up_left : (n c : ℕ) → rank_of t c ≤ n → ((symbols_of t).super_of c ≡ no_id → ⊥) → rank_of t ((symbols_of t).super_of c) ≤ less n
  unfolding less
  up_left zero c l k = absurd (omega (arith, super_lower t e c k))
  up_left (suc n) c l k = omega (arith, super_lower t e c k)

  pub climbing_first : (class : ℕ) → Climbing t class above ((symbols_of t).super_of class)
  unfolding is_subclass
  climbing_first class =
      record {
        fuel = less (symbols_of t).classes;
        left = up_left (symbols_of t).classes class (class_rank t class);
        same = up (symbols_of t).classes class (class_rank t class);
      }

  module _ (class c : ℕ) (g : Climbing t class above c) where
    pub climbing_end : c ≡ no_id → is_subclass (symbols_of t) class above ≡ false
    unfolding choose
    climbing_end i = g.same ∙ rw (eq-eqb c no_id i)

    module _ (n : c ≡ no_id → ⊥) where
      pub climbing_met : c ≡ above → is_subclass (symbols_of t) class above ≡ true
      unfolding choose
      climbing_met i = g.same ∙ rw (ne_eqb c no_id n, eq-eqb c above i)

      pub climbing_up : (c ≡ above → ⊥) → Climbing t class above ((symbols_of t).super_of c)
      unfolding choose
      climbing_up i =
          record {
            fuel = less g.fuel;
            left = up_left g.fuel c (g.left n);
            same = g.same ∙ (rw (ne_eqb c no_id n, ne_eqb c above i) (up g.fuel c (g.left n)));
          }

  -- any number of steps from the rank on is enough
  enough : (f g c : ℕ) → rank_of t c ≤ f → rank_of t c ≤ g → climbs (symbols_of t).super_of f c above ≡ climbs (symbols_of t).super_of g c above
  unfolding climbs choose
  enough zero zero c h k = refl
  enough zero (suc g) c h k = rw (no_super_lem c h)
  enough (suc f) zero c h k = rw (no_super_lem c k)
  enough (suc f) (suc g) c h k = go (eqb ((symbols_of t).super_of c) no_id) refl (enough f g ((symbols_of t).super_of c))
    where
      go : (b : Bool) → eqb ((symbols_of t).super_of c) no_id ≡ b
          → (rank_of t ((symbols_of t).super_of c) ≤ f → rank_of t ((symbols_of t).super_of c) ≤ g
          → climbs (symbols_of t).super_of f ((symbols_of t).super_of c) above ≡ climbs (symbols_of t).super_of g ((symbols_of t).super_of c) above)
          → climbs (symbols_of t).super_of (suc f) c above ≡ climbs (symbols_of t).super_of (suc g) c above
      go true i r = rw i
      go false i r = let l = super_lower t e c (eqb-false _ _ i) in rw (r (omega arith) (omega arith))

  -- The law of the climb: false where a class has no superclass, true where that is the class above, and else what is said of it.
  pub climb : (class : ℕ)
      → is_subclass (symbols_of t) class above
      ≡ choose (eqb ((symbols_of t).super_of class) no_id) false
      (choose (eqb ((symbols_of t).super_of class) above) true (is_subclass (symbols_of t) ((symbols_of t).super_of class) above))
  unfolding is_subclass choose
  climb class = go (eqb ((symbols_of t).super_of class) no_id) refl
    where
      N : ℕ
      N = (symbols_of t).classes

      go : (b : Bool) → eqb ((symbols_of t).super_of class) no_id ≡ b
          → climbs (symbols_of t).super_of N class above ≡ met t N ((symbols_of t).super_of class) above
      go true i = up N class (class_rank t class) ∙ rw i
      go false i =
          up N class (class_rank t class)
          ∙ rw (enough (less N) N ((symbols_of t).super_of class) (up_left N class (class_rank t class) (eqb-false _ _ i)) (class_rank t ((symbols_of t).super_of class)))

  -- what the code does
  pub at_first : (class : ℕ) (r : Option ℕ) → r ≡ known_id ((symbols_of t).super_of class) → ClimbingAt t class above r
  at_first class r i = record { super = (symbols_of t).super_of class; is = i; climbing = climbing_first class }

  module _ (class : ℕ) (a : Option ℕ) (g : ClimbingAt t class above a) where
    pub at_end : a ≡ None → is_subclass (symbols_of t) class above ≡ false
    at_end i = climbing_end class g.super g.climbing (none_known g.super (sym i ∙ g.is))

    module _ (c : ℕ) (i : a ≡ Some c) where
      stands_at : (g.super ≡ c) × (g.super ≡ no_id → ⊥)
      stands_at = some_known g.super c (sym i ∙ g.is)

      pub at_met : c ≡ above → is_subclass (symbols_of t) class above ≡ true
      at_met j = climbing_met class g.super g.climbing stands_at.1 (stands_at.0 ∙ j)

      pub at_up : (c ≡ above → ⊥) → (r : Option ℕ) → r ≡ known_id ((symbols_of t).super_of c) → ClimbingAt t class above r
      at_up n r k =
          record {
            super = (symbols_of t).super_of g.super;
            is = k ∙ ap (λ (x : ℕ). known_id ((symbols_of t).super_of x)) (sym stands_at.0);
            climbing = climbing_up class g.super g.climbing stands_at.1 (λ z. n (sym stands_at.0 ∙ z));
          }

      pub at_below : (r : Option ℕ) → r ≡ known_id ((symbols_of t).super_of c) → height t (id_number r) < height t (id_number a)
      at_below r k =
          rw (k, i, number_known ((symbols_of t).super_of c)) (super_below t e c (λ z. stands_at.1 (stands_at.0 ∙ z)))
