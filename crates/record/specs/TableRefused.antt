-- The numbers 1 to 7 of a table. Document 01, "Refused, and by whose doing": the first faulty record, the lowest number within it.
use Rattle.std.specs.Prelude.{ℕ, ltb, eqb, length, Bool, false, not, ◌&&◌, ◌||◌, List, [], ◌∷◌}
use Rattle.record.specs.Layout.{is_malformed, has_error, ids_used, param_names, record_kind, superclass_field, first_interface_field, second_interface_field}
use Rattle.record.specs.Spelling.{builtin_names, spelled}
use Rattle.record.specs.Table.{Record, records_of, name_count, key_of, keyed, non_empty}
use Rattle.ty.specs.Choose.{choose}
use Rattle.ty.specs.Name.{no_id, all_defined}

unfoldable pub occurs : ℕ → List ℕ → Bool
occurs id [] = false
occurs id (x ∷ xs) = eqb x id || occurs id xs

-- one of some ids occurs among those before it
unfoldable pub repeats : List ℕ → List ℕ → Bool
repeats before [] = false
repeats before (id ∷ ids) = occurs id before || repeats (id ∷ before) ids

-- name bytes, built-ins included; class; owner and name; functions may repeat
unfoldable pub key_repeated : List Record → Record → Bool
key_repeated earlier r =
    (eqb (record_kind r) 1 && spelled (key_of r) builtin_names)
    || (not (eqb (record_kind r) 4) && non_empty (keyed (record_kind r) (key_of r) earlier))

-- a class with a record, but not an earlier one; `rest` is this record and those behind it
unfoldable pub is_late : ℕ → List Record → List Record → Bool
is_late id earlier rest = not (eqb id no_id) && (not (non_empty (keyed 2 (id ∷ []) earlier)) && non_empty (keyed 2 (id ∷ []) rest))

-- a superclass or interface of a class, with a record, but not an earlier one
abbrev pub has_late_parent : List Record → Record → List Record → Bool
has_late_parent earlier r rest =
    is_late (superclass_field r) earlier rest || (is_late (first_interface_field r) earlier rest || is_late (second_interface_field r) earlier rest)

-- the kind of the latest of the earlier records
abbrev pub kind_before : List Record → ℕ
kind_before [] = 0
kind_before (r ∷ rs) = record_kind r

-- The number of a record, 0 for none. `earlier` are the records before it, the latest first; `rest` is it and those behind it.
--   2 malformed or cut record; 3 kind falls; 4 undefined id; 5 key repeated (name bytes, built-ins included; class; owner and name; a parameter's name within
--   one function); 6 a superclass or interface with a record, but not an earlier one; 7 Error in a type, or no end within 192 bytes
unfoldable pub record_fault : List Record → Record → List Record → ℕ
record_fault earlier r rest =
    choose (is_malformed r) 2
    (choose (ltb (record_kind r) (kind_before earlier)) 3
    (choose (not (all_defined (ids_used r) (name_count earlier))) 4
    (choose (repeats [] (param_names r) || key_repeated earlier r) 5
    (choose (eqb (record_kind r) 2 && has_late_parent earlier r rest) 6
    (choose (has_error r) 7
    0)))))

-- the number of the first faulty record
unfoldable pub first_fault : List Record → List Record → ℕ
first_fault earlier [] = 0
first_fault earlier (r ∷ rs) =
    choose (eqb (record_fault earlier r (r ∷ rs)) 0) (first_fault (r ∷ earlier) rs) (record_fault earlier r (r ∷ rs))

-- 1 over 60,000 bytes; otherwise the first faulty record's
unfoldable pub table_fault : List ℕ → ℕ
table_fault t = choose (ltb 60000 (length t)) 1 (first_fault [] (records_of t))
