-- What order 6 claims of a table's class records, for every table. Document 02: "The class record gains two interface ids behind its superclass, 65,535 for
-- none; an interface with a record needs it earlier, else number 6, and undefined ones get 4 .. one that thereby passes 60,000 bytes draws number 1".
use Rattle.std.specs.Prelude.{ℕ, ◌≤◌, ◌<◌, eqb, false, true, ◌≡◌, ◌≢◌, ◌⊎◌, List, [], ◌∷◌, ◌++◌, length, get_or, drop}
use Rattle.record.specs.Layout.{ids_used, record_kind, record_size, class_field, superclass_field, first_interface_field, second_interface_field}
use Rattle.record.specs.Layout.{package_field, types_field}
use Rattle.record.specs.Order3.{nth_record, names_before, CheckReaches}
use Rattle.record.specs.Table.{Record, records_of, before}
use Rattle.record.specs.TableRefused.{key_repeated, is_late, kind_before, record_fault, table_fault}
use Rattle.ty.specs.Bytes.{id_at}
use Rattle.ty.specs.Choose.{choose}
use Rattle.ty.specs.Name.{no_id, id_defined, all_defined}

-- an id, where it is not 65,535
abbrev pub if_given : ℕ → List ℕ
if_given id = choose (eqb id no_id) [] (id ∷ [])

-- "two interface ids behind its superclass, 65,535 for none": a class record's places and its length, and the ids that it uses
pub record ClassPlaces (r : Record) : Type 0 where
  pub name : class_field r ≡ id_at r 1
  pub superclass : superclass_field r ≡ id_at r 3
  pub first_interface : first_interface_field r ≡ id_at r 5
  pub second_interface : second_interface_field r ≡ id_at r 7
  pub package_behind : package_field r ≡ id_at r 9
  pub flag : types_field r ≡ get_or r 11 0
  pub long : record_size r ≡ 12
  pub uses : ids_used r ≡ id_at r 1 ∷ if_given (id_at r 3) ++ (if_given (id_at r 5) ++ (if_given (id_at r 7) ++ (if_given (id_at r 9) ++ [])))

-- record i is a class whose superclass or one of whose interfaces is `id`
pub record NamesParent (t : List ℕ) (i id : ℕ) : Type 0 where
  pub class : record_kind (nth_record t i) ≡ 2
  pub parent : (superclass_field (nth_record t i) ≡ id)
      ⊎ ((first_interface_field (nth_record t i) ≡ id) ⊎ (second_interface_field (nth_record t i) ≡ id))
  pub some : id ≢ no_id

-- record i draws neither 3 nor 4 nor 5
pub record RightOtherwise (t : List ℕ) (i : ℕ) : Type 0 where
  pub rises : kind_before (before i (records_of t)) ≤ record_kind (nth_record t i)
  pub defined : all_defined (ids_used (nth_record t i)) (names_before t i) ≡ true
  pub new : key_repeated (before i (records_of t)) (nth_record t i) ≡ false

-- the claims
pub record InterfacesChecked (t : List ℕ) : Type 0 where
  pub places : (r : Record) → record_kind r ≡ 2 → ClassPlaces r
  -- "undefined ones get 4"
  pub undefined : (i id : ℕ) → CheckReaches t i → kind_before (before i (records_of t)) ≤ 2 → NamesParent t i id
      → id_defined id (names_before t i) ≡ false → table_fault t ≡ 4
  -- "an interface with a record needs it earlier, else number 6", as a superclass does, where the record draws no lower number
  pub late : (i id : ℕ) → CheckReaches t i → RightOtherwise t i → NamesParent t i id
      → is_late id (before i (records_of t)) (drop i (records_of t)) ≡ true → table_fault t ≡ 6
  -- the class itself is not earlier
  pub itself : (i : ℕ) → CheckReaches t i → RightOtherwise t i → NamesParent t i (class_field (nth_record t i)) → table_fault t ≡ 6
  -- a class of which no superclass or interface is late draws no number, whether it has none, one or several, the same twice, or one without a record
  pub taken : (i : ℕ) → record_kind (nth_record t i) ≡ 2 → i < length (records_of t) → RightOtherwise t i
      → ((id : ℕ) → NamesParent t i id → is_late id (before i (records_of t)) (drop i (records_of t)) ≡ false)
      → record_fault (before i (records_of t)) (nth_record t i) (drop i (records_of t)) ≡ 0
  -- and in an accepted table none is late
  pub accepted : table_fault t ≡ 0 → (i id : ℕ) → i < length (records_of t) → NamesParent t i id
      → is_late id (before i (records_of t)) (drop i (records_of t)) ≡ false
  -- "one that thereby passes 60,000 bytes draws number 1"
  pub long : 60000 < length t → table_fault t ≡ 1
