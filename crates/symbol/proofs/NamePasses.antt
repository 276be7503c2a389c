-- The check of the names, one after the other.
use Prim.Native.Nat.{ℕ, suc, ◌≤◌, ◌<◌}
use borrow.Author.Tests.{eqb-true, eqb-false}
use lib.Dec.{eqb}
use lib.ListN.{length, get_or, drop, set}
use mathlib.Core.Bool.{Bool, true, false, ◌&&◌}
use mathlib.Core.List.{List}
use mathlib.Core.Logic.{◌⊎◌, inl, inr}
use mathlib.Core.Path.{◌≡◌, refl, sym, ap, ◌∙◌, subst}
use native.Mathlib.Omega.{arith}
use Rattle.std.specs.Prelude.{Some, Result, Ok, Err, IsErr, IsErrAnd, MatchResult}
use Rattle.index.specs.Inside.IndexedTable.{IndexRoom}
use Rattle.record.proofs.Faults.{own-clean, key_number, key_clean}
use Rattle.record.proofs.NameRecords.{named, named_step, broken_step, name_by, name_cases, whole_name, name_some, name_byte, name_step, broken_is}
use Rattle.record.proofs.NamesCounted.{walk_names, behind_counted}
use Rattle.record.proofs.Records.{record_own, before_next}
use Rattle.record.specs.Inside.Front.{Front, front_of, name_front, name_head, broken_head}
use Rattle.record.specs.Inside.HeadFault.{last_kind, id_missing, some_parent, parent_missing}
use Rattle.record.specs.Inside.Walk.{start, CursorAt, StepIs, Stands, record_at}
use Rattle.record.specs.Inside.NamesBefore.{WalkAt, walk_start, behind_name}
use Rattle.record.specs.Table.{records_of, before}
use Rattle.record.specs.declared.walk.Cursor.{Cursor}
use Rattle.record.specs.declared.walk.Step.{Step}
use Rattle.record.specs.declared.walk.TableWalk.{TableWalk}
use Rattle.symbol.proofs.IndexMakes.{making_start, making_stopped, making_next}
use Rattle.symbol.proofs.LateMakes.{Noting, noting_start, noting_own, noting_key, noting_next}
use Rattle.symbol.proofs.NamesFit.{names_fit}
use Rattle.symbol.proofs.Passes.{own_zero, key_zero, passed_start, passed_refused, passed_placed, passed_join, passed_next}
use Rattle.symbol.specs.Inside.Asked.{NameAsked, fault_at, own_fault_at, key_fault_at}
use Rattle.symbol.specs.Inside.Join.{EntryIs, EntryTreeIs, TreeAsked}
use Rattle.symbol.specs.Inside.LateMade.{late_looked, late_from, late_made}
use Rattle.symbol.specs.Inside.NamesChecked.{NamesPassed, NamesDone, NameRefused}
use Rattle.symbol.specs.TableFault.{table_fault_number}
use Rattle.symbol.specs.declared.checks.Entry.TheVariants as entry
use Rattle.symbol.specs.declared.checks.TableFault.{TableFault}
use Rattle.ty.specs.Choose.{choose}

-- at the start
pub names_start : (t x : List ℕ) (w : TableWalk) → length t ≤ 60000 → w ≡ walk_start → IndexRoom t x → NamesPassed t x x w
unfolding before choose
names_start t x w h e r =
    let k : w.here ≡ start = ap (λ (z : TableWalk). z.here) e in
    record {
      passed = passed_start t x w h e r;
      kind = subst (λ (z : Cursor). last_kind (before z.index (records_of t)) ≤ 1) (sym k) (omega arith);
      made = making_start t x w.here h k;
      late = λ late. noting_start t late w.here k;
    }

-- the entries for the classes ahead are not looked at
pub noted : (t x₀ x : List ℕ) (w : TableWalk) → NamesPassed t x₀ x w → (late : List ℕ) → Noting t late late w.here false
unfolding choose
noted t x₀ x w g late = g.late late

module _ (t x₀ x : List ℕ) (w : TableWalk) (g : NamesPassed t x₀ x w) (byte : get_or t w.here.at 0 ≡ 1) where
  abbrev c : Cursor
  c = w.here

  at : CursorAt t c
  at = g.passed.walk.at

  pub names_asked : length t ≤ 60000 → NameAsked t x c
  names_asked l =
      record { at = at; byte = byte; kind = g.kind; planted = record { short = l; entered = g.passed.entered; tree = g.passed.tree } }

  noting : (late : List ℕ) → Noting t late late c false
  noting = noted t x₀ x w g

  own : (front_of (record_at t c)).malformed ≡ false → front_of (record_at t c) ≡ name_front
  own m = record_own t c (name_some t c byte) ∙ whole_name (drop c.at t) (name_byte t c byte) (ap (λ (z : Front). z.malformed) (sym (record_own t c (name_some t c byte))) ∙ m)

  -- no name has a superclass or interface to look ahead for
  no_parent : (front_of (record_at t c)).malformed ≡ false → false ≡ parent_missing (before c.index (records_of t)) (record_at t c)
  unfolding parent_missing
  no_parent m =
      ap (λ (z : Front). eqb z.kind 2 && some_parent (id_missing (before c.index (records_of t))) (record_at t c)) (sym (own m))

  by_itself : own_fault_at t c ≡ 0 → (front_of (record_at t c)).malformed ≡ false
  by_itself z = (own-clean (before c.index (records_of t)) (record_at t c) (records_of (drop c.at t)) z).0

  -- its number
  module _ (f : ℕ) (fault : f ≡ fault_at t c) where
    -- a refusal
    module _ (p : Step) (st : StepIs t c p) (some : f ≡ 0 → ⊥) where
      late_kept : (late : List ℕ) → late ≡ late_made t late
      unfolding late_looked choose
      late_kept late = go (eqb (own_fault_at t c) 0) refl
        where
          go : (v : Bool) → eqb (own_fault_at t c) 0 ≡ v → late ≡ late_made t late
          go false q = noting_own t late late c false (noting late) at p st (own_fault_at t c) refl (eqb-false _ 0 q)
          go true q =
              let z = eqb-true _ 0 q in
              noting_key t late late c false (noting late) at p st (own_fault_at t c) refl z false (no_parent (by_itself z)) late refl (key_fault_at t c) refl
              (λ k. some (fault ∙ key_number _ _ _ z ∙ k))

      refused : (r : TableFault) → table_fault_number r ≡ f → NameRefused t x₀ x r
      refused r e =
          record {
            number = e ∙ passed_refused t x w g.passed p st (name_some t c byte) f fault some;
            made = making_stopped t x₀ x c g.made at p st f fault some;
            late = late_kept;
          }

    pub name_refused : (f ≡ 0 → ⊥) → (r : TableFault) → table_fault_number r ≡ f → NameRefused t x₀ x r
    name_refused some r e = go (name_cases (drop c.at t))
      where
        go : (name_head (drop c.at t) ≡ broken_head (drop c.at t)) ⊎ (name_head (drop c.at t) ≡ name_front) → NameRefused t x₀ x r
        go (inl b) = refused (broken_step t c byte) (broken_is t c byte (name_by (drop c.at t) (name_byte t c byte) ∙ b)) some r e
        go (inr n) = refused (named_step t c byte) (name_step t c byte (name_by (drop c.at t) (name_byte t c byte) ∙ n)) some r e

    -- an empty entry for it
    module _ (zero : f ≡ 0) (a : ℕ) (place : EntryTreeIs t x c a) where
      own_none : own_fault_at t c ≡ 0
      own_none = own_zero _ _ _ (sym fault ∙ zero)

      key_none : key_fault_at t c ≡ 0
      key_none = key_zero _ _ _ (sym fault ∙ zero)

      is_name : front_of (record_at t c) ≡ name_front
      is_name = own (by_itself own_none)

      front : front_of (drop c.at t) ≡ name_front
      front = sym (record_own t c (name_some t c byte)) ∙ is_name

      abbrev p : Step
      p = named_step t c byte

      st : StepIs t c p
      st = name_step t c byte front

      stands : Stands t c named
      stands = record { at = at; some = name_some t c byte; head = sym front }

      fills : EntryIs t x c (Some (entry.Tree a))
      fills = record { key = sym (key_clean _ _ _ key_none); place = place }

      pub name_room : length t ≤ 60000 → TreeAsked x c.at a
      name_room l = passed_join t x w g.passed p st (name_some t c byte) f fault zero named stands (Some (entry.Tree a)) fills l

      walk : WalkAt t (behind_name w)
      walk = behind_counted t w (behind_name w) refl g.passed.walk (record { byte = byte; front = front })

      last : last_kind (before (suc c.index) (records_of t)) ≤ 1
      last =
          let e : last_kind (before (suc c.index) (records_of t)) ≡ 1 = ap last_kind (before_next t c at p st) ∙ ap (λ (z : Front). z.kind) is_name in
          omega (arith, e)

      later : (late : List ℕ) → Noting t late late p.next false
      unfolding late_looked choose
      later late =
          noting_next t late late c false (noting late) at p st (own_fault_at t c) refl own_none false (no_parent (by_itself own_none)) late refl (key_fault_at t c) refl
          key_none false refl

      late : (late : List ℕ) → late_from t p.next.at (before p.next.index (records_of t)) (records_of (drop p.next.at t)) late ≡ late_made t late
      unfolding choose
      late = later

      pub names_next : (y : List ℕ) → y ≡ set x a (suc c.at) → NamesPassed t x₀ y (behind_name w)
      names_next y q =
          record {
            passed = passed_next t x w g.passed p st (name_some t c byte) f fault zero named stands (Some (entry.Tree a)) fills (behind_name w) refl walk y q;
            kind = last;
            made = making_next t x₀ x c g.made at p st f fault zero y
                (q ∙ passed_placed t x w g.passed p st (name_some t c byte) f fault zero named stands (Some (entry.Tree a)) fills);
            late = late;
          }

  pub names_few : length t ≤ 60000 → (w.names < 65535) × (c.index ≤ c.at) × (c.at ≤ 60000)
  names_few l =
      let n = walk_names t w g.passed.walk in
      (omega (arith, n, names_fit t c at, at.inside, l), at.behind, omega (arith, at.inside, l))

-- a refusal that a callee gave is passed on
pub refused_on : (t x₀ x : List ℕ) (r : Result TableWalk TableFault) (f : TableFault) → IsErr r → IsErrAnd r (λ (g : TableFault). g ≡ f) → NameRefused t x₀ x f
    → MatchResult r (NamesDone t x₀ x) (NameRefused t x₀ x)
refused_on t x₀ x (Ok w) f i h n = absurd h
refused_on t x₀ x (Err g) f i h n = subst (NameRefused t x₀ x) (sym h) n
