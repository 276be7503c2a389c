-- The number of a record by itself, behind the names.
use Prim.Native.Nat.{ℕ, ◌≤◌, ◌<◌}
use borrow.Author.Tests.{ne_eqb, lt-ltb, le-ltb}
use lib.Dec.{eqb, ltb}
use mathlib.Core.Bool.{Bool, true, false, not, ◌&&◌, ◌||◌}
use mathlib.Core.List.{List}
use mathlib.Core.Path.{◌≡◌, refl, sym, ap, ◌∙◌}
use native.Mathlib.Omega.{arith}
use Rattle.record.proofs.NamesCounted.{walk_names}
use Rattle.record.proofs.RecordSizes.{stands_own}
use Rattle.record.specs.Inside.Front.{Front, front_of, front_of_head}
use Rattle.record.specs.Inside.FrontRecord.{count_of}
use Rattle.record.specs.Inside.HeadFault.{name_bytes, is_builtin_name, last_kind, own_fault}
use Rattle.record.specs.Inside.Walk.{record_at}
use Rattle.record.specs.RecordKind.{record_kind_number}
use Rattle.record.specs.Spelling.{builtin_names, spelled}
use Rattle.record.specs.Table.{records_of, before}
use Rattle.record.specs.declared.front.Head.{Head}
use Rattle.record.specs.declared.front.RecordKind.{RecordKind}
use Rattle.record.specs.declared.walk.TableWalk.{TableWalk}
use Rattle.symbol.specs.Inside.Asked.{Asked, own_fault_at}
use Rattle.ty.proofs.Choice.{chosen, passed}
use Rattle.ty.specs.Name.{id_defined}

module _ (w : TableWalk) (h : Head) (k : RecordKind) (t : List ℕ) (a : Asked t w h k) where
  own : front_of_head h ≡ front_of (record_at t w.here)
  own = stands_own t w.here h a.stands

  whole : (front_of (record_at t w.here)).malformed ≡ false
  whole = ap (λ (z : Front). z.malformed) (sym own)

  -- the tests of the code are those of the definition
  falls : (v : Bool) → ltb (record_kind_number h.kind) (record_kind_number k) ≡ v
      → ltb (front_of (record_at t w.here)).kind (last_kind (before w.here.index (records_of t))) ≡ v
  falls v e = sym (a.kind.same whole) ∙ ap (λ (z : Front). ltb z.kind (record_kind_number k)) (sym own) ∙ e

  defined : (v : Bool) → id_defined h.top w.names ≡ v → id_defined (front_of (record_at t w.here)).top (count_of 1 (before w.here.index (records_of t))) ≡ v
  defined v e =
      ap (λ (z : Front). id_defined z.top (count_of 1 (before w.here.index (records_of t)))) (sym own)
      ∙ ap (id_defined h.top) (sym (walk_names t w a.walk)) ∙ e

  -- of a kind from 2 on it is no name
  unnamed : record_kind_number k ≤ record_kind_number h.kind → is_builtin_name (record_at t w.here) ≡ false
  unnamed l =
      ap (λ (v : Bool). v && spelled (name_bytes (record_at t w.here)) builtin_names)
      (ap (λ (z : Front). eqb z.kind 1) (sym own) ∙ ne_eqb _ _ (λ e. omega (arith, a.kind.low, l, e)))

  pub own_falls : record_kind_number h.kind < record_kind_number k → 3 ≡ own_fault_at t w.here
  unfolding own_fault
  own_falls l = passed _ _ _ _ whole (chosen _ _ _ _ (falls true (lt-ltb _ _ l)) refl)

  module _ (l : record_kind_number k ≤ record_kind_number h.kind) where
    pub own_undefined : id_defined h.top w.names ≡ false → 4 ≡ own_fault_at t w.here
    unfolding own_fault
    own_undefined d = passed _ _ _ _ whole (passed _ _ _ _ (falls false (le-ltb _ _ l)) (chosen _ _ _ _ (ap not (defined false d)) refl))

    module _ (d : id_defined h.top w.names ≡ true) where
      pub own_repeated : h.repeated ≡ true → 5 ≡ own_fault_at t w.here
      unfolding own_fault
      own_repeated r =
          passed _ _ _ _ whole (passed _ _ _ _ (falls false (le-ltb _ _ l)) (passed _ _ _ _ (ap not (defined true d))
          (chosen _ _ _ _ (ap (λ (v : Bool). v || is_builtin_name (record_at t w.here)) (ap (λ (z : Front). z.repeated) (sym own) ∙ r)) refl)))

      pub own_none : h.repeated ≡ false → 0 ≡ own_fault_at t w.here
      unfolding own_fault
      own_none r =
          passed _ _ _ _ whole (passed _ _ _ _ (falls false (le-ltb _ _ l)) (passed _ _ _ _ (ap not (defined true d))
          (passed _ _ _ _ (ap (λ (v : Bool). v || is_builtin_name (record_at t w.here)) (ap (λ (z : Front). z.repeated) (sym own) ∙ r) ∙ unnamed l) refl)))

-- of the code's tests
pub ruleset own_rules = (own_falls, own_undefined, own_repeated, own_none)
