-- The claims of order 6 for class records.
use Prim.Native.Nat.{ℕ, suc, ◌≤◌, ◌<◌}
use borrow.Author.Tests.{eq-eqb, ne_eqb, le-ltb, eqb-false}
use lib.Dec.{eqb}
use lib.ListN.{length, drop, get_or}
use lib.Seq.{drop-cons}
use mathlib.Core.Bool.{Bool, true, false, ◌&&◌, ◌||◌, false≢true, true≢false, not}
use mathlib.Core.List.{List, [], ◌∷◌, ◌++◌}
use mathlib.Core.Logic.{◌⊎◌, inl, inr}
use mathlib.Core.Path.{◌≡◌, refl, sym, ap, ◌∙◌, subst}
use native.Mathlib.Omega.{arith}
use Rattle.record.proofs.Accepts.{accepted_clean, CleanFrom, clean_drop}
use Rattle.record.proofs.Laid.{kind_byte, same_late, class_value}
use Rattle.record.proofs.NamesCounted.{names_taken}
use Rattle.record.proofs.Order3.{some_undefined, stop}
use Rattle.record.proofs.Faults.{long_fault}
use Rattle.record.proofs.RecordParts.{or_true, none_before}
use Rattle.record.specs.Layout.{fields_of, fields_from, any_field, each_field, lengths, is_malformed, ids_used, param_names, record_kind, record_size, fields_in, first_interface_field, second_interface_field, superclass_field, class_field, has_error}
use Rattle.record.specs.Order3.{nth_record, names_before, CheckReaches}
use Rattle.record.specs.Order6Table.{ClassPlaces, NamesParent, RightOtherwise, InterfacesChecked}
use Rattle.ty.specs.Bytes.{same_bytes}
use Rattle.record.specs.Table.{keyed, key_of, non_empty, Record, records_of, name_count, before}
use Rattle.record.specs.TableRefused.{occurs, repeats, is_late, has_late_parent, kind_before, record_fault, table_fault, key_repeated}
use Rattle.ty.specs.Bytes.{id_at}
use Rattle.ty.specs.Choose.{choose}
use Rattle.ty.specs.Name.{no_id, id_defined, all_defined}

-- ---- ids, of which some may be none
module _ (id : ℕ) where
  occurs_behind : (a : ℕ) (js : List ℕ) → occurs id js ≡ true → occurs id (a ∷ js) ≡ true
  unfolding occurs
  occurs_behind a js o = ap (λ (b : Bool). eqb a id || b) o ∙ or_true (eqb a id)

  occurs_past : (a : ℕ) (js : List ℕ) → occurs id js ≡ true → occurs id (none_before a js) ≡ true
  occurs_past a js o = go (eqb a no_id)
    where
      go : (b : Bool) → occurs id (choose b [] (a ∷ []) ++ js) ≡ true
      go true = unfold choose in o
      go false = unfold choose in occurs_behind a js o

  occurs_here : (a : ℕ) (js : List ℕ) → a ≡ id → (id ≡ no_id → ⊥) → occurs id (none_before a js) ≡ true
  unfolding occurs choose
  occurs_here a js e n = rw (ne_eqb a no_id (λ z. n (sym e ∙ z)), eq-eqb a id e)

-- ---- a class record
abbrev IsParent : Record → ℕ → Type 0
IsParent r id = (superclass_field r ≡ id) ⊎ ((first_interface_field r ≡ id) ⊎ (second_interface_field r ≡ id))

-- ids, then one that may be none, and so on
abbrev class_ids : Record → List ℕ
class_ids r = none_before (id_at r 3) (none_before (id_at r 5) (none_before (id_at r 7) (none_before (id_at r 9) [])))

module _ (r : Record) (k : record_kind r ≡ 2) where
  fields_here : fields_in r ≡ fields_from (fields_of 2 (get_or r 7 0)) r 1
  fields_here = ap (λ (n : ℕ). fields_from (fields_of n (get_or r 7 0)) r 1) ((kind_byte r (omega arith)).1 ∙ k)

  whole : is_malformed r ≡ false
  whole = (kind_byte r (omega arith)).0

  uses : ids_used r ≡ id_at r 1 ∷ class_ids r
  unfolding fields_of fields_from each_field choose
  uses = ap (each_field (λ p. p.ids)) fields_here

  places : ClassPlaces r
  unfolding record_size fields_of fields_from any_field lengths choose
  places =
      record {
        name = class_value r k 0;
        superclass = class_value r k 1;
        first_interface = class_value r k 2;
        second_interface = class_value r k 3;
        package_behind = class_value r k 4;
        flag = class_value r k 5;
        long = rw (whole, fields_here);
        uses = uses;
      }

  no_params : param_names r ≡ []
  unfolding fields_of fields_from each_field choose
  no_params = ap (each_field (λ p. p.names)) fields_here

  no_error : has_error r ≡ false
  unfolding fields_of fields_from any_field choose
  no_error = ap (any_field (λ p. p.error)) fields_here

  -- superclass and interfaces are among its ids
  used : (id : ℕ) → IsParent r id → (id ≡ no_id → ⊥) → occurs id (ids_used r) ≡ true
  used id i n = ap (occurs id) uses ∙ occurs_behind id _ _ (go i)
    where
      go : IsParent r id → occurs id (class_ids r) ≡ true
      go (inl e) = occurs_here id (id_at r 3) _ (sym places.superclass ∙ e) n
      go (inr (inl e)) = occurs_past id (id_at r 3) _ (occurs_here id (id_at r 5) _ (sym places.first_interface ∙ e) n)
      go (inr (inr e)) =
          occurs_past id (id_at r 3) _ (occurs_past id (id_at r 5) _ (occurs_here id (id_at r 7) _ (sym places.second_interface ∙ e) n))

-- ---- its numbers
or_one : (a b d : Bool) → (a ≡ true) ⊎ ((b ≡ true) ⊎ (d ≡ true)) → a || (b || d) ≡ true
or_one true b d e = refl
or_one false true d e = refl
or_one false false d (inl e) = absurd (false≢true e)
or_one false false d (inr (inl e)) = absurd (false≢true e)
or_one false false d (inr (inr e)) = e

module _ (earlier rest : List Record) where
  -- an id that is none is not late
  late_given : (id : ℕ) → ((id ≡ no_id → ⊥) → is_late id earlier rest ≡ false) → is_late id earlier rest ≡ false
  unfolding is_late
  late_given id h = go (eqb id no_id) refl (λ e. h (eqb-false id no_id e))
    where
      go : (b : Bool) → eqb id no_id ≡ b
          → (eqb id no_id ≡ false → not (eqb id no_id) && (not (non_empty (keyed 2 (id ∷ []) earlier)) && non_empty (keyed 2 (id ∷ []) rest)) ≡ false)
          → not (eqb id no_id) && (not (non_empty (keyed 2 (id ∷ []) earlier)) && non_empty (keyed 2 (id ∷ []) rest)) ≡ false
      go true e f = ap (λ (b : Bool). not b && (not (non_empty (keyed 2 (id ∷ []) earlier)) && non_empty (keyed 2 (id ∷ []) rest))) e
      go false e f = f e

  module _ (r : Record) where
    some_late : (id : ℕ) → IsParent r id → is_late id earlier rest ≡ true → has_late_parent earlier r rest ≡ true
    some_late id (inl e) l = or_one (is_late (superclass_field r) earlier rest) (is_late (first_interface_field r) earlier rest) (is_late (second_interface_field r) earlier rest)
        (inl (ap (λ (x : ℕ). is_late x earlier rest) e ∙ l))
    some_late id (inr (inl e)) l = or_one (is_late (superclass_field r) earlier rest) (is_late (first_interface_field r) earlier rest) (is_late (second_interface_field r) earlier rest)
        (inr (inl (ap (λ (x : ℕ). is_late x earlier rest) e ∙ l)))
    some_late id (inr (inr e)) l = or_one (is_late (superclass_field r) earlier rest) (is_late (first_interface_field r) earlier rest) (is_late (second_interface_field r) earlier rest)
        (inr (inr (ap (λ (x : ℕ). is_late x earlier rest) e ∙ l)))

    none_late : (id : ℕ) → IsParent r id → has_late_parent earlier r rest ≡ false → is_late id earlier rest ≡ false
    none_late id i l = go (is_late id earlier rest) refl
      where
        go : (b : Bool) → is_late id earlier rest ≡ b → is_late id earlier rest ≡ false
        go false e = e
        go true e = absurd (true≢false (sym (some_late id i e) ∙ l))

    all_timely : ((id : ℕ) → IsParent r id → (id ≡ no_id → ⊥) → is_late id earlier rest ≡ false) → has_late_parent earlier r rest ≡ false
    all_timely h =
        rw (
          late_given (superclass_field r) (λ n. h (superclass_field r) (inl refl) n),
          late_given (first_interface_field r) (λ n. h (first_interface_field r) (inr (inl refl)) n),
          late_given (second_interface_field r) (λ n. h (second_interface_field r) (inr (inr refl)) n),
        )

-- a class with a new key is late where it is its own parent
own_late : (earlier : List Record) (r : Record) (rs : List Record) → record_kind r ≡ 2 → (class_field r ≡ no_id → ⊥) → key_repeated earlier r ≡ false
    → is_late (class_field r) earlier (r ∷ rs) ≡ true
unfolding key_repeated is_late keyed key_of same_bytes choose
own_late earlier r rs k n w =
    let q : non_empty (keyed 2 (class_field r ∷ []) earlier) ≡ false = rw k at w in
    rw (ne_eqb (class_field r) no_id n, q, k, eq-eqb (class_field r) (class_field r) refl)

module _ (t : List ℕ) where
  -- the records from i on
  rest_cons : (i : ℕ) → i < length (records_of t) → drop i (records_of t) ≡ nth_record t i ∷ drop (suc i) (records_of t)
  rest_cons i l = drop-cons (records_of t) i [] l

  undefined : (i id : ℕ) → CheckReaches t i → kind_before (before i (records_of t)) ≤ 2 → NamesParent t i id → id_defined id (names_before t i) ≡ false
      → table_fault t ≡ 4
  unfolding record_fault choose
  undefined i id o l h u =
      let n = names_taken i (records_of t) (omega (arith, o.some)) in
      let d : all_defined (ids_used (nth_record t i)) (name_count (before i (records_of t))) ≡ false
      = ap (all_defined (ids_used (nth_record t i))) n
      ∙ some_undefined id (names_before t i) (ids_used (nth_record t i)) (used (nth_record t i) h.class id h.parent h.some) u in
      stop t i o 3
      (rw (whole (nth_record t i) h.class, le-ltb (record_kind (nth_record t i)) (kind_before (before i (records_of t))) (omega (arith, l, h.class)), d))

  late : (i id : ℕ) → CheckReaches t i → RightOtherwise t i → NamesParent t i id → is_late id (before i (records_of t)) (drop i (records_of t)) ≡ true
      → table_fault t ≡ 6
  unfolding record_fault repeats choose
  late i id o w h l =
      let n = names_taken i (records_of t) (omega (arith, o.some)) in
      let d : all_defined (ids_used (nth_record t i)) (name_count (before i (records_of t))) ≡ true
      = ap (all_defined (ids_used (nth_record t i))) n ∙ w.defined in
      let p : has_late_parent (before i (records_of t)) (nth_record t i) (nth_record t i ∷ drop (suc i) (records_of t)) ≡ true
      = some_late (before i (records_of t)) _ (nth_record t i) id h.parent
      (ap (λ (rs : List Record). is_late id (before i (records_of t)) rs) (sym (rest_cons i o.some)) ∙ l) in
      stop t i o 5
      (rw (
        whole (nth_record t i) h.class,
        le-ltb (record_kind (nth_record t i)) (kind_before (before i (records_of t))) w.rises,
        d,
        no_params (nth_record t i) h.class,
        w.new,
        eq-eqb _ _ h.class,
        p,
      ))

  itself : (i : ℕ) → CheckReaches t i → RightOtherwise t i → NamesParent t i (class_field (nth_record t i)) → table_fault t ≡ 6
  itself i o w h =
      late i (class_field (nth_record t i)) o w h
      (ap (λ (rs : List Record). is_late (class_field (nth_record t i)) (before i (records_of t)) rs) (rest_cons i o.some)
      ∙ own_late (before i (records_of t)) (nth_record t i) (drop (suc i) (records_of t)) h.class h.some w.new)

  taken : (i : ℕ) → record_kind (nth_record t i) ≡ 2 → i < length (records_of t) → RightOtherwise t i
      → ((id : ℕ) → NamesParent t i id → is_late id (before i (records_of t)) (drop i (records_of t)) ≡ false)
      → record_fault (before i (records_of t)) (nth_record t i) (drop i (records_of t)) ≡ 0
  unfolding record_fault repeats choose
  taken i k l w h =
      let n = names_taken i (records_of t) (omega (arith, l)) in
      let d : all_defined (ids_used (nth_record t i)) (name_count (before i (records_of t))) ≡ true
      = ap (all_defined (ids_used (nth_record t i))) n ∙ w.defined in
      let p : has_late_parent (before i (records_of t)) (nth_record t i) (drop i (records_of t)) ≡ false
      = all_timely (before i (records_of t)) (drop i (records_of t)) (nth_record t i) (λ id a b. h id (record { class = k; parent = a; some = b })) in
      rw (
        whole (nth_record t i) k,
        le-ltb (record_kind (nth_record t i)) (kind_before (before i (records_of t))) w.rises,
        d,
        no_params (nth_record t i) k,
        w.new,
        eq-eqb _ _ k,
        p,
        no_error (nth_record t i) k,
      )

  accepted : table_fault t ≡ 0 → (i id : ℕ) → i < length (records_of t) → NamesParent t i id → is_late id (before i (records_of t)) (drop i (records_of t)) ≡ false
  accepted e i id l h =
      let c : CleanFrom (before i (records_of t)) (nth_record t i ∷ drop (suc i) (records_of t))
      = subst (λ (rs : List Record). CleanFrom (before i (records_of t)) rs) (rest_cons i l) (clean_drop i (records_of t) (omega (arith, l)) (accepted_clean t e)) in
      let p : eqb (record_kind (nth_record t i)) 2 && has_late_parent (before i (records_of t)) (nth_record t i) (nth_record t i ∷ drop (suc i) (records_of t)) ≡ false
      = sym (same_late (before i (records_of t)) _ (nth_record t i)) ∙ c.0.parent in
      ap (λ (rs : List Record). is_late id (before i (records_of t)) rs) (rest_cons i l)
      ∙ none_late (before i (records_of t)) _ (nth_record t i) id h.parent
      (sym (ap (λ (b : Bool). b && has_late_parent (before i (records_of t)) (nth_record t i) (nth_record t i ∷ drop (suc i) (records_of t))) (eq-eqb _ _ h.class)) ∙ p)

pub interfaces_checked : (t : List ℕ) → InterfacesChecked t
interfaces_checked t =
    record {
      places = places;
      undefined = undefined t;
      late = late t;
      itself = itself t;
      taken = taken t;
      accepted = accepted t;
      long = long_fault t;
    }
