-- What the code finds in a record beside those before it, from the records' heads: its number, 0 for none, and the keys and classes among some records. Laws
-- `same_number` and `same_first` (proofs Laid) tie it to `record_fault` and `first_fault`.
use Rattle.std.specs.Prelude.{ℕ, Bool, false, not, ◌&&◌, ◌||◌, List, [], ◌∷◌, take, drop, ltb, eqb}
use Rattle.ty.specs.Choose.{choose}
use Rattle.ty.specs.Name.{no_id, id_defined}
use Rattle.ty.specs.Bytes.{same_bytes, id_at}
use Rattle.record.specs.Inside.Front.{Front}
use Rattle.record.specs.Inside.Front.{front_of}
use Rattle.record.specs.Inside.FrontRecord.{count_of}
use Rattle.record.specs.Table.{Record}
use Rattle.record.specs.Spelling.{builtin_names, spelled}

-- the 24 bytes of a name
abbrev pub name_bytes : Record → List ℕ
name_bytes r = take 24 (drop 2 r)

-- Two records have one key: of a name its bytes, of a class and an operator set the class, of kinds 5 to 8 owner and name; functions may repeat.
unfoldable pub same_key : Record → Record → Bool
same_key x y =
    choose (eqb (front_of x).kind (front_of y).kind)
    (choose (eqb (front_of x).kind 1) (same_bytes (name_bytes x) (name_bytes y))
    (choose (ltb (front_of x).kind 4) (eqb (front_of x).one (front_of y).one)
    (choose (eqb (front_of x).kind 4) false (eqb (front_of x).one (front_of y).one && eqb (front_of x).two (front_of y).two))))
    false

unfoldable pub has_key : Record → List Record → Bool
has_key x [] = false
has_key x (r ∷ rs) = same_key r x || has_key x rs

-- a name record with a built-in spelling
abbrev pub is_builtin_name : Record → Bool
is_builtin_name r = eqb (front_of r).kind 1 && spelled (name_bytes r) builtin_names

-- the class id has a record among some
abbrev pub is_class : ℕ → Front → Bool
is_class id h = eqb h.kind 2 && eqb h.one id

unfoldable pub has_class : ℕ → List Record → Bool
has_class id [] = false
has_class id (r ∷ rs) = is_class id (front_of r) || has_class id rs

-- an id is given, and no earlier record is its class
abbrev pub id_missing : List Record → ℕ → Bool
id_missing earlier id = not (eqb id no_id) && not (has_class id earlier)

-- an id is given, no earlier record is its class, and one of `rest` is
abbrev pub id_late : List Record → List Record → ℕ → Bool
id_late earlier rest id = id_missing earlier id && has_class id rest

-- the interfaces of a class record
abbrev pub first_interface_at : Record → ℕ
first_interface_at r = id_at r 5

abbrev pub second_interface_at : Record → ℕ
second_interface_at r = id_at r 7

-- a test holds of a class record's superclass or of one of its interfaces
abbrev pub some_parent : (ℕ → Bool) → Record → Bool
some_parent test r = test (front_of r).two || (test (first_interface_at r) || test (second_interface_at r))

-- r is a class of which a superclass or interface has a record, but not an earlier one; `rest` is r and the records behind it
unfoldable pub parent_late : List Record → Record → List Record → Bool
parent_late earlier r rest = eqb (front_of r).kind 2 && some_parent (id_late earlier rest) r

-- the kind of the latest of the earlier records
abbrev pub last_kind : List Record → ℕ
last_kind [] = 0
last_kind (r ∷ rs) = (front_of r).kind

-- the number of a record by its head; `earlier` are the records before it, the latest first; `rest` is it and the records behind it
unfoldable pub head_fault : List Record → Record → List Record → ℕ
head_fault earlier r rest =
    choose (front_of r).malformed 2
    (choose (ltb (front_of r).kind (last_kind earlier)) 3
    (choose (not (id_defined (front_of r).top (count_of 1 earlier))) 4
    (choose ((front_of r).repeated || (is_builtin_name r || has_key r earlier)) 5
    (choose (parent_late earlier r rest) 6 (choose (front_of r).error 7 0)))))

-- the number of the first faulty record
unfoldable pub found_from : List Record → List Record → ℕ
found_from earlier [] = 0
found_from earlier (r ∷ rs) =
    choose (eqb (head_fault earlier r (r ∷ rs)) 0) (found_from (r ∷ earlier) rs) (head_fault earlier r (r ∷ rs))

-- r is a class of which a superclass or interface has no earlier record
unfoldable pub parent_missing : List Record → Record → Bool
parent_missing earlier r = eqb (front_of r).kind 2 && some_parent (id_missing earlier) r

-- the number of a record by itself: 2, 3, 4, and 5 for a parameter's name and a built-in spelling
unfoldable pub own_fault : List Record → Record → ℕ
own_fault earlier r =
    choose (front_of r).malformed 2
    (choose (ltb (front_of r).kind (last_kind earlier)) 3
    (choose (not (id_defined (front_of r).top (count_of 1 earlier))) 4 (choose ((front_of r).repeated || is_builtin_name r) 5 0)))

-- the number of a record beside the others: 5, 6, and 7
unfoldable pub key_fault : List Record → Record → List Record → ℕ
key_fault earlier r rest = choose (has_key r earlier) 5 (choose (parent_late earlier r rest) 6 (choose (front_of r).error 7 0))
