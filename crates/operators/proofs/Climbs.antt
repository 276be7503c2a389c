-- The climb's fuel is enough where superclasses stand earlier, as in an accepted table, and a loop climbs along.
use Prim.Native.Nat.{ℕ, zero, suc, ◌+◌, ◌≤◌, ◌<◌}
use borrow.Author.Tests.{eqb-true, eqb-false, ne_eqb}
use lib.Dec.{eqb}
use mathlib.Core.Bool.{Bool, true, false}
use mathlib.Core.List.{List}
use mathlib.Core.Option.{Option, none, some}
use Rattle.std.specs.Prelude as std
use mathlib.Core.Path.{◌≡◌, refl, sym, ap, ◌∙◌}
use native.Mathlib.Nat.{not-suc-le-zero}
use native.Mathlib.Omega.{arith}
use Rattle.operators.specs.Inside.MethodPlace.{first_result_place, class_place, climb_place, climb_place_from}
use Rattle.operators.specs.OperatorMethod.{method_id, has_operator, at_class, climb, climb_from}
use Rattle.record.specs.TableRefused.{table_fault}
use Rattle.symbol.specs.Inside.ClassRun.{rank_of}
use Rattle.symbol.proofs.Ranks.{class_rank, super_lower, height, height_low, some_height, super_below}
use Rattle.symbol.specs.Lookup.{symbols_of}
use Rattle.symbol.specs.Symbols.{Symbols}
use Rattle.ty.specs.Bytes.{Ty}
use Rattle.ty.specs.Choose.{choose}
use Rattle.ty.proofs.Known.{none_known, some_known, number_known}
use Rattle.ty.specs.Name.{no_id, known_id, id_number}

-- each class has a rank of at most the number of class records, and its superclass, if there is one, a lower one
pub record Ranked (S : Symbols) : Type 0 where
  pub rank : ℕ → ℕ
  pub low : (c : ℕ) → rank c ≤ S.classes
  pub falls : (c : ℕ) → (S.super_of c ≡ no_id → ⊥) → rank (S.super_of c) < rank c

module _ (S : Symbols) (R : Ranked S) where
  at_none : (f op c : ℕ) → c ≡ no_id → climb S f op c ≡ none
  unfolding climb choose
  at_none zero op c e = refl
  at_none (suc f) op c e = rw e

  pub enough : (f g op c : ℕ) → R.rank c < f → R.rank c < g → climb S f op c ≡ climb S g op c
  unfolding climb
  enough zero g op c h k = absurd (not-suc-le-zero h)
  enough (suc f) zero op c h k = absurd (not-suc-le-zero k)
  enough (suc f) (suc g) op c h k =
      ap (λ (up : Option Ty). choose (eqb c no_id) none (at_class S op c (S.operators_of c) up)) (go (eqb (S.super_of c) no_id) refl (enough f g op (S.super_of c)))
    where
      go : (b : Bool) → eqb (S.super_of c) no_id ≡ b
          → (R.rank (S.super_of c) < f → R.rank (S.super_of c) < g → climb S f op (S.super_of c) ≡ climb S g op (S.super_of c))
          → climb S f op (S.super_of c) ≡ climb S g op (S.super_of c)
      go true e r = rw (at_none f op (S.super_of c) (eqb-true (S.super_of c) no_id e), at_none g op (S.super_of c) (eqb-true (S.super_of c) no_id e))
      go false e r = let l : R.rank (S.super_of c) < R.rank c = R.falls c (eqb-false (S.super_of c) no_id e) in r (omega arith) (omega arith)

  -- as many steps as there are classes, and one, are enough
  pub climb_enough : (f op c : ℕ) → climb S (suc S.classes + f) op c ≡ climb_from S op c
  climb_enough f op c = let l : R.rank c ≤ S.classes = R.low c in enough (suc S.classes + f) (suc S.classes) op c (omega arith) (omega arith)

  -- so the climb unfolds into itself
  pub climb_unfolds : (op c : ℕ)
      → climb_from S op c ≡ choose (eqb c no_id) none (at_class S op c (S.operators_of c) (climb_from S op (S.super_of c)))
  unfolding climb
  climb_unfolds op c =
      let l : R.rank c ≤ S.classes = R.low c in enough (suc S.classes) (suc (suc S.classes)) op c (omega arith) (omega arith)

-- ---- in an accepted table
pub ranked : (t : List ℕ) → table_fault t ≡ 0 → Ranked (symbols_of t)
ranked t e = record { rank = rank_of t; low = class_rank t; falls = super_lower t e }

-- ---- the place of an operator method
-- the climb from `class` goes on at class c, with so many steps left
pub record Going (t : List ℕ) (op class c : ℕ) : Type 0 where
  pub fuel : ℕ
  pub left : height t c ≤ fuel
  pub same : climb_place_from t op class ≡ climb_place t fuel op c

-- the same where c may be none
pub record GoingAt (t : List ℕ) (op class : ℕ) (c : std.Option ℕ) : Type 0 where
  pub id : ℕ
  pub is : c ≡ known_id id
  pub going : Going t op class id

module _ (t : List ℕ) (op class : ℕ) where
  going_first : Going t op class class
  going_first =
      record {
        fuel = suc (symbols_of t).classes;
        left = height_low t class;
        same = refl;
      }

  -- one class of the climb
  climb_at : (f c : ℕ) → (c ≡ no_id → ⊥)
      → climb_place t (suc f) op c ≡ class_place t op c ((symbols_of t).operators_of c) (climb_place t f op ((symbols_of t).super_of c))
  unfolding climb_place choose
  climb_at f c n = rw (ne_eqb c no_id n)

  climb-end : (f c : ℕ) → c ≡ no_id → climb_place t f op c ≡ std.None
  unfolding climb_place choose
  climb-end zero c e = refl
  climb-end (suc f) c e = rw e

  going_end : (c : ℕ) → Going t op class c → c ≡ no_id → climb_place_from t op class ≡ std.None
  going_end c g e = g.same ∙ climb-end g.fuel c e

  module _ (c : ℕ) (n : c ≡ no_id → ⊥) where
    -- the climb with a step taken
    stepped : (f : ℕ) → height t c ≤ f → climb_place_from t op class ≡ climb_place t f op c
        → (g : ℕ) × (f ≡ suc g) × (climb_place_from t op class ≡ class_place t op c ((symbols_of t).operators_of c) (climb_place t g op ((symbols_of t).super_of c)))
    stepped zero l s = absurd (omega (arith, some_height t c n))
    stepped (suc f) l s = (f, refl, s ∙ climb_at f c n)

    no_set : Going t op class c → none ≡ (symbols_of t).operators_of c → climb_place_from t op class ≡ std.None
    unfolding class_place
    no_set g h = (stepped g.fuel g.left g.same).2 ∙ rw (← h)

    -- where there is a set m, u says whether the operator is in it
    module _ (g : Going t op class c) (m : ℕ) (h : some m ≡ (symbols_of t).operators_of c) (u : Bool) (v : u ≡ has_operator m op) where
      has_method : u ≡ true → climb_place_from t op class ≡ std.Some (first_result_place t c (method_id op))
      unfolding class_place choose
      has_method b = (stepped g.fuel g.left g.same).2 ∙ rw (← h, ← v, b)

      going_up : u ≡ false → table_fault t ≡ 0 → (d : ℕ) → d ≡ (symbols_of t).super_of c → Going t op class d
      unfolding class_place choose
      going_up b a d q =
          let s = stepped g.fuel g.left g.same in
          rw q (record { fuel = s.0; left = omega (arith, super_below t a c n, s.1, g.left); same = s.2 ∙ rw (← h, ← v, b) })

  -- what the code does
  pub at_first : (a : std.Option ℕ) → a ≡ known_id class → GoingAt t op class a
  at_first a e = record { id = class; is = e; going = going_first }

  module _ (a : std.Option ℕ) (g : GoingAt t op class a) where
    pub at_end : a ≡ std.None → climb_place_from t op class ≡ std.None
    at_end e = going_end g.id g.going (none_known g.id (sym e ∙ g.is))

    module _ (c : ℕ) (i : a ≡ std.Some c) where
      stands_at : (g.id ≡ c) × (g.id ≡ no_id → ⊥)
      stands_at = some_known g.id c (sym i ∙ g.is)

      pub at_no_set : none ≡ (symbols_of t).operators_of c → climb_place_from t op class ≡ std.None
      at_no_set h = no_set g.id stands_at.1 g.going (rw stands_at.0 h)

      module _ (m : ℕ) (h : some m ≡ (symbols_of t).operators_of c) (u : Bool) (v : u ≡ has_operator m op) where
        pub at_method : u ≡ true → climb_place_from t op class ≡ std.Some (first_result_place t c (method_id op))
        at_method b = has_method g.id stands_at.1 g.going m (rw stands_at.0 h) u v b ∙ rw stands_at.0

        pub at_up : u ≡ false → table_fault t ≡ 0 → (r : std.Option ℕ) → r ≡ known_id ((symbols_of t).super_of c) → GoingAt t op class r
        at_up b clean r k =
            record {
              id = (symbols_of t).super_of g.id;
              is = k ∙ ap (λ (n : ℕ). known_id ((symbols_of t).super_of n)) (sym stands_at.0);
              going = going_up g.id stands_at.1 g.going m (rw stands_at.0 h) u v b clean _ refl;
            }

      pub at_below : table_fault t ≡ 0 → (r : std.Option ℕ) → r ≡ known_id ((symbols_of t).super_of c) → height t (id_number r) < height t (id_number a)
      at_below clean r k = rw (k, i, number_known ((symbols_of t).super_of c)) (super_below t clean c (λ z. stands_at.1 (stands_at.0 ∙ z)))

-- the loop's start, its steps, its ends and its measure
pub ruleset climb_steps = (at_first, at_end, at_no_set, at_method, at_up, at_below)
