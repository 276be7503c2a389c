-- The claims of order 3.
use Prim.Native.Nat.{ℕ, zero, suc, ◌+◌, ◌≤◌, ◌<◌}
use borrow.Author.Tests.{eqb-true, eq-eqb, le-ltb}
use lib.Dec.{eqb}
use lib.ListN.{length, take, drop, get_or, length-drop}
use lib.Seq.{drop-cons, drop-drop}
use mathlib.Core.Bool.{Bool, true, false, ◌&&◌, ◌||◌, false≢true}
use mathlib.Core.List.{List, [], ◌∷◌}
use mathlib.Core.Path.{◌≡◌, refl, sym, ap, ◌∙◌}
use native.Mathlib.Numerals.{add-one}
use native.Mathlib.Omega.{arith}
use Rattle.std.proofs.Math.Seq.{take-length}
use Rattle.record.proofs.Agree.{same_size}
use Rattle.record.proofs.Bounds.{head_bounded}
use Rattle.record.proofs.Faults.{fault_stop, fault_on, short_fault}
use Rattle.record.proofs.Laid.{same_kind, same_number}
use Rattle.record.proofs.NamesCounted.{names_taken, names_next}
use Rattle.record.proofs.Records.{records-here, records-joined, record_own, at_start, at_more}
use Rattle.record.proofs.RecordSizes.{head_fits}
use Rattle.record.specs.Inside.Front.{Front, front_of}
use Rattle.record.specs.Inside.HeadFault.{found_from}
use Rattle.record.specs.Inside.Walk.{CursorAt, record_at}
use Rattle.record.specs.Layout.{is_malformed, ids_used, record_kind, record_size}
use Rattle.record.specs.Inside.NamesBefore.{WalkAt, TableStepIs, behind_name}
use Rattle.record.specs.Inside.NamesWalked.{NamesWalked}
use Rattle.record.specs.Order3.{nth_record, names_before, behind_record, walked, CheckReaches, OnlyLater, NamesShown}
use Rattle.record.specs.Table.{Record, first_record, records_of, joined, of_kind, name_count, before}
use Rattle.record.specs.TableRefused.{occurs, kind_before, record_fault, table_fault}
use Rattle.record.specs.declared.walk.Cursor.{Cursor}
use Rattle.record.specs.declared.walk.TableStep.{TableStep}
use Rattle.record.specs.declared.walk.TableWalk.{TableWalk}
use Rattle.ty.specs.Choose.{choose}
use Rattle.ty.specs.Name.{id_defined, all_defined}

-- ---- the running value

-- at a record
module _ (t : List ℕ) (c : Cursor) (a : CursorAt t c) (h : c.index < length (records_of t)) where
  some : c.at < length t
  some = at_more t c a h

  size : (front_of (drop c.at t)).len ≡ record_size (drop c.at t)
  size = same_size (drop c.at t)

  here : drop c.index (records_of t) ≡ record_at t c ∷ records_of (drop (c.at + record_size (drop c.at t)) t)
  here =
      sym a.sits ∙ records-here (drop c.at t) (omega (arith, length-drop c.at t, some))
      ∙ ap (λ (z : List ℕ). record_at t c ∷ records_of z) (drop-drop (front_of (drop c.at t)).len c.at t ∙ ap (λ (n : ℕ). drop (c.at + n) t) size)

  parts : nth_record t c.index ∷ drop (suc c.index) (records_of t) ≡ record_at t c ∷ records_of (drop (c.at + record_size (drop c.at t)) t)
  parts = sym (drop-cons (records_of t) c.index [] h) ∙ here

  record_here : nth_record t c.index ≡ first_record (drop c.at t)
  record_here = ap (λ (z : List Record). get_or z 0 []) parts ∙ ap (λ (n : ℕ). take n (drop c.at t)) size

  behind_at : CursorAt t (record { at = c.at + record_size (drop c.at t); index = suc c.index })
  behind_at =
      let b = head_bounded (drop c.at t) (omega (arith, length-drop c.at t, some)) in
      record {
        sits = sym (ap (λ (z : List Record). drop 1 z) parts);
        behind = omega (arith, a.behind, b.low, size);
        inside = omega (arith, length-drop c.at t, some, b.high, size);
        count = h;
      }

  -- a name has 26 bytes
  name_size : record_kind (nth_record t c.index) ≡ 1 → record_size (drop c.at t) ≡ 26
  name_size e =
      let r : record_at t c ≡ nth_record t c.index = sym (ap (λ (z : List Record). get_or z 0 []) parts) in
      let k : (front_of (drop c.at t)).kind ≡ 1 = ap (λ (f : Front). f.kind) (sym (record_own t c some)) ∙ same_kind (record_at t c) ∙ ap record_kind r ∙ e in
      sym size ∙ (head_fits (drop c.at t)).name k

-- cursors at one record are at one byte
same_place : (t : List ℕ) (c d : Cursor) → CursorAt t c → CursorAt t d → c.index ≡ d.index → c.at ≡ d.at
same_place t c d a b e =
    let left : drop c.at t ≡ drop d.at t
    = sym (records-joined (drop c.at t)) ∙ ap joined (a.sits ∙ ap (λ (n : ℕ). drop n (records_of t)) e ∙ sym b.sits) ∙ records-joined (drop d.at t) in
    omega (arith, ap (λ (z : List ℕ). length z) left, length-drop c.at t, length-drop d.at t, a.inside, b.inside)

module _ (t : List ℕ) where
  record Shown (i : ℕ) (w : TableWalk) : Type 0 where
    at : CursorAt t w.here
    index : w.here.index ≡ i
    names : w.names ≡ names_before t i

  shown_next : (i : ℕ) (w : TableWalk) → suc i ≤ length (records_of t) → Shown i w → Shown (suc i) (behind_record t w)
  shown_next i w h s =
      let l : w.here.index < length (records_of t) = omega (arith, s.index, h) in
      let r : first_record (drop w.here.at t) ≡ nth_record t i = sym (record_here t w.here s.at l) ∙ ap (nth_record t) s.index in
      record {
        at = behind_at t w.here s.at l;
        index = ap suc s.index;
        names = (λ j. s.names j + choose (eqb (record_kind (r j)) 1) 1 0) ∙ sym (names_next i (records_of t) h);
      }

  shown : (i : ℕ) → i ≤ length (records_of t) → Shown i (walked t i)
  unfolding walked
  shown zero h = record { at = at_start t; index = refl; names = unfold of_kind in refl }
  shown (suc i) h = shown_next i (walked t i) h (shown i (omega (arith, h)))

  stands : (i : ℕ) → i ≤ length (records_of t) → WalkAt t (walked t i) × ((walked t i).here.index ≡ i)
  stands i h =
      let s = shown i h in
      (record { at = s.at; names = s.names ∙ ap (names_before t) (sym s.index) }, s.index)

  only : (w : TableWalk) → WalkAt t w → w ≡ walked t w.here.index
  only w a =
      let s = shown w.here.index a.at.count in
      let p = same_place t w.here (walked t w.here.index).here a.at s.at (sym s.index) in
      λ i. record { here = record { at = p i; index = sym s.index i }; names = (a.names ∙ sym s.names) i }

  step : (i : ℕ) → i < length (records_of t) → (r : TableStep) → TableStepIs t (walked t i) r → r.next ≡ walked t (suc i)
  step i h r s = only r.next s.next ∙ ap (walked t) (s.step.index ∙ add-one (walked t i).here.index ∙ ap suc (shown i (omega (arith, h))).index)

  name : (i : ℕ) → i < length (records_of t) → record_kind (nth_record t i) ≡ 1 → behind_name (walked t i) ≡ walked t (suc i)
  unfolding walked choose
  name i h k =
      let s = shown i (omega (arith, h)) in
      let w = walked t i in
      let l : w.here.index < length (records_of t) = omega (arith, s.index, h) in
      let e : record_kind (nth_record t w.here.index) ≡ 1 = ap (λ (n : ℕ). record_kind (nth_record t n)) s.index ∙ k in
      let o : eqb (record_kind (first_record (drop w.here.at t))) 1 ≡ true = eq-eqb _ _ (ap record_kind (sym (record_here t w.here s.at l)) ∙ e) in
      λ j. record {
        here = record { at = w.here.at + sym (name_size t w.here s.at l e) j; index = suc w.here.index };
        names = (sym (add-one w.names) ∙ ap (λ (b : Bool). w.names + choose b 1 0) (sym o)) j;
      }

-- ---- number 4

and_false : (b : Bool) → b && false ≡ false
and_false true = refl
and_false false = refl

-- an id that is not defined is not among defined ones
pub some_undefined : (id n : ℕ) (ids : List ℕ) → occurs id ids ≡ true → id_defined id n ≡ false → all_defined ids n ≡ false
unfolding occurs all_defined
some_undefined id n [] o u = absurd (false≢true o)
some_undefined id n (x ∷ xs) o u = go (eqb x id) refl o (λ p. some_undefined id n xs p u)
  where
    go : (b : Bool) → eqb x id ≡ b → b || occurs id xs ≡ true → (occurs id xs ≡ true → all_defined xs n ≡ false) → id_defined x n && all_defined xs n ≡ false
    go true e p ih = ap (λ (z : ℕ). id_defined z n && all_defined xs n) (eqb-true x id e) ∙ ap (λ (b : Bool). b && all_defined xs n) u
    go false e p ih = ap (λ (b : Bool). id_defined x n && b) (ih p) ∙ and_false (id_defined x n)

module _ (t : List ℕ) where
  -- where the check reaches record i, its number comes from there on
  from_here : (i : ℕ) → i ≤ length (records_of t)
      → ((k : ℕ) → k < i → record_fault (before k (records_of t)) (nth_record t k) (drop k (records_of t)) ≡ 0)
      → found_from [] (records_of t) ≡ found_from (before i (records_of t)) (drop i (records_of t))
  unfolding before
  from_here zero h c = refl
  from_here (suc i) h c =
      let e = drop-cons (records_of t) i [] h in
      from_here i (omega (arith, h)) (λ k l. c k (omega (arith, l)))
      ∙ ap (found_from (before i (records_of t))) e
      ∙ fault_on (before i (records_of t)) (nth_record t i) (drop (suc i) (records_of t))
      (same_number (before i (records_of t)) (nth_record t i) _ ∙ ap (record_fault (before i (records_of t)) (nth_record t i)) (sym e) ∙ c i (omega arith))

  module _ (i : ℕ) (o : CheckReaches t i) where
    abbrev earlier : List Record
    earlier = before i (records_of t)

    pub stop : (n : ℕ) → record_fault earlier (nth_record t i) (nth_record t i ∷ drop (suc i) (records_of t)) ≡ suc n → table_fault t ≡ suc n
    stop n e =
        let f = same_number earlier (nth_record t i) (nth_record t i ∷ drop (suc i) (records_of t)) ∙ e in
        short_fault t o.short ∙ from_here i (omega (arith, o.some)) o.clean ∙ ap (found_from earlier) (drop-cons (records_of t) i [] o.some)
        ∙ fault_stop earlier (nth_record t i) (drop (suc i) (records_of t)) (λ z. omega (arith, z, f)) ∙ f

  late : (i id : ℕ) → CheckReaches t i → is_malformed (nth_record t i) ≡ false → kind_before (before i (records_of t)) ≤ record_kind (nth_record t i)
      → occurs id (ids_used (nth_record t i)) ≡ true → OnlyLater t i id → table_fault t ≡ 4
  unfolding record_fault choose
  late i id o m k u l =
      let n = names_taken i (records_of t) (omega (arith, o.some)) in
      let d : all_defined (ids_used (nth_record t i)) (name_count (before i (records_of t))) ≡ false
      = ap (all_defined (ids_used (nth_record t i))) n ∙ some_undefined id (names_before t i) (ids_used (nth_record t i)) u l.not_before in
      stop i o 3 (rw (m, le-ltb (record_kind (nth_record t i)) (kind_before (before i (records_of t))) k, d))

pub names_shown : (t : List ℕ) → NamesShown t
names_shown t =
    record { value = λ i h. (shown t i h).names; all = (shown t (length (records_of t)) (omega arith)).names ∙ ap name_count (take-length (records_of t)); undefined = λ i id h l. ap (id_defined id) (shown t i h).names ∙ l.not_before; late = late t }

pub names_walked : (t : List ℕ) → NamesWalked t
names_walked t = record { stands = stands t; only = only t; step = step t; name = name t }
