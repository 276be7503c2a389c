-- The bytes of a class record.
use Prim.Native.Nat.{ℕ, ◌+◌, ◌*◌, ◌≤◌, ◌<◌}
use lib.ListN.{length, get_or, take, drop}
use mathlib.Core.List.{List}
use mathlib.Core.Path.{◌≡◌, sym, ap, ◌∙◌}
use mathlib.Core.Logic.{inl, inr}
use native.Mathlib.Omega.{arith}
use Rattle.symbol.proofs.ClassRuns.{class_run}
use Rattle.below.proofs.ParentTests.{parent-test}
use Rattle.below.specs.Below.{HasParent}
use Rattle.below.specs.Inside.Marks.{id_count}
use Rattle.below.specs.Inside.RecordParents.{ParentsOf, ParentsBelow}
use Rattle.below.specs.declared.parents.Parents.{Parents}
use Rattle.record.proofs.Accepts.{accepted_short}
use Rattle.record.specs.Table.{records_of, name_count}
use Rattle.record.specs.TableRefused.{table_fault}
use Rattle.std.proofs.lemmas.List.{get_or-drop, get_or-take}
use Rattle.symbol.specs.Inside.ClassRun.{class_start, class_at}
use Rattle.symbol.specs.Lookup.{symbols_of}
use Rattle.ty.specs.Bytes.{id_at}

module _ (t : List ℕ) (e : table_fault t ≡ 0) (i : ℕ) (h : i < (symbols_of t).classes) where
  pub record_inside : (26 * name_count (records_of t) + 12 * i + 12 ≤ length t) × (length t ≤ 60000)
  record_inside = let l = (class_run t e).long in let s = accepted_short t e in (omega arith, s)

  -- an id at a place in the record
  id_in_record : (k : ℕ) → k + 1 < 12 → id_at (take 12 (drop (class_start t i) t)) k ≡ id_at t (class_start t i + k)
  id_in_record k l =
      let w : class_start t i + (k + 1) ≡ class_start t i + k + 1 = omega arith in
      λ q. byte k (omega arith) q + 256 * (byte (k + 1) l ∙ ap (λ (z : ℕ). get_or t z 0) w) q
    where
      byte : (k : ℕ) → k < 12 → get_or (take 12 (drop (class_start t i) t)) k 0 ≡ get_or t (class_start t i + k) 0
      byte k l = get_or-take 12 (drop (class_start t i) t) k 0 l ∙ get_or-drop (class_start t i) t k 0

  module _ (r : List ℕ) (u : r ≡ take 12 (drop (class_start t i) t)) where
    read : (k x : ℕ) → k + 1 < 12 → x ≡ id_at r k → x ≡ id_at t (class_start t i + k)
    read k x l g = g ∙ (ap (λ (z : List ℕ). id_at z k) u ∙ id_in_record k l)

    pub class_read : (x : ℕ) → x ≡ id_at r 1 → x ≡ class_at t i
    class_read x g = read 1 x (omega arith) g

    pub parents_read : (x y z : ℕ) → x ≡ id_at r 3 → y ≡ id_at r 5 → z ≡ id_at r 7
        → ParentsOf (symbols_of t) (class_at t i) (record { superclass = x; first_interface = y; second_interface = z })
    parents_read x y z f g k =
        record {
          superclass = read 3 x (omega arith) f ∙ sym ((class_run t e).super i h);
          first_interface = read 5 y (omega arith) g ∙ sym ((class_run t e).first i h);
          second_interface = read 7 z (omega arith) k ∙ sym ((class_run t e).second i h);
        }

  -- a parent that is an id is one of at most 2,347
  parent_below : {p : ℕ} → HasParent (symbols_of t) (class_at t i) p → p < id_count
  parent_below {p} k =
      let d = (class_run t e).defined (class_at t i) p (parent-test (symbols_of t) k) in
      let l = record_inside in
      omega (arith, d, l.0, l.1)

  pub parents_below : (p : Parents) → ParentsOf (symbols_of t) (class_at t i) p → ParentsBelow id_count p
  parents_below p g =
      record {
        superclass = λ n. parent_below (inl (sym g.superclass), n);
        first_interface = λ n. parent_below (inr (inl (sym g.first_interface)), n);
        second_interface = λ n. parent_below (inr (inr (sym g.second_interface)), n);
      }

-- the same of the bytes t that a struct with the view s has inside
pub record_fits : (t s : List ℕ) (names i : ℕ) → t ≡ s → (table_fault t ≡ 0) × (names ≡ name_count (records_of t)) → i < (symbols_of s).classes
    → (26 * names + 12 * i + 12 ≤ length t) × (length t ≤ 60000)
record_fits t s names i v (e, k) h =
    let l = record_inside t e i (rw (← v) at h) in
    (omega (arith, l.0, k), l.1)
