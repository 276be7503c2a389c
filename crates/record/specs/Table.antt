-- A table as the list of its records, each its own bytes (document 01, "Table and question").
use Rattle.std.specs.Prelude.{ℕ, zero, suc, ◌-◌, ltb, eqb, length, get_or, take, drop, Bool, true, false, ◌&&◌, List, [], ◌∷◌, ◌++◌}
use Rattle.record.specs.Layout.{record_kind, record_size, class_field, owner_field, name_field}
use Rattle.ty.specs.Bytes.{same_bytes}
use Rattle.ty.specs.Choose.{choose}

abbrev pub Record : Type 0
Record = List ℕ

-- the record at the front of some bytes
abbrev pub first_record : List ℕ → Record
first_record s = take (record_size s) s

-- the records of some bytes of which the first n belong to no record
unfoldable pub records_from : List ℕ → ℕ → List Record
records_from [] n = []
records_from (b ∷ bs) (suc n) = records_from bs n
records_from (b ∷ bs) zero = first_record (b ∷ bs) ∷ records_from bs (record_size (b ∷ bs) - 1)

abbrev pub records_of : List ℕ → List Record
records_of t = records_from t 0

-- the bytes of some records, one behind the other: those of a table are the table (law `records-joined`)
unfoldable pub joined : List Record → List ℕ
joined [] = []
joined (r ∷ rs) = r ++ joined rs

-- those of a kind
unfoldable pub of_kind : ℕ → List Record → List Record
of_kind kind [] = []
of_kind kind (r ∷ rs) = choose (eqb (record_kind r) kind) (r ∷ of_kind kind rs) (of_kind kind rs)

-- how many names there are
abbrev pub name_count : List Record → ℕ
name_count rs = length (of_kind 1 rs)

-- the first k records, the latest first
unfoldable pub before : ℕ → List Record → List Record
before zero rs = []
before (suc k) rs = get_or rs k [] ∷ before k rs

-- ---- keys

-- a record's key: of a name its 24 bytes; of a class and an operator set the class; of the others owner and name
unfoldable pub key_of : Record → List ℕ
key_of r =
    choose (eqb (record_kind r) 1) (take 24 (drop 2 r))
    (choose (ltb (record_kind r) 4) (class_field r ∷ []) (owner_field r ∷ name_field r ∷ []))

-- those of a kind with that key
unfoldable pub keyed : ℕ → List ℕ → List Record → List Record
keyed kind key [] = []
keyed kind key (r ∷ rs) = choose (eqb (record_kind r) kind && same_bytes (key_of r) key) (r ∷ keyed kind key rs) (keyed kind key rs)

-- there is one
abbrev pub non_empty : List Record → Bool
non_empty [] = false
non_empty (r ∷ rs) = true
