-- What the rules see of a table, from its records' fields (document 01, "Table and question"; sema/symbol.rs).
use Rattle.std.specs.Prelude.{ℕ, ◌-◌, ◌%◌, ltb, leb, eqb, length, get_or, drop, Bool, true, false, ◌&&◌, List, [], ◌∷◌, map}
use Rattle.std.proofs.Math.Option.{none, some}
use Rattle.record.specs.Layout.{FieldAt, fields_in, nth_field, field_bytes, superclass_field, first_interface_field, second_interface_field, package_field}
use Rattle.record.specs.Layout.{types_field, mask_field, visibility_field, type_field}
use Rattle.symbol.specs.Symbols.{Param, Overload, Symbols}
use Rattle.record.specs.Table.{Record, records_of, of_kind, keyed}
use Rattle.ty.specs.Choose.{choose}
use Rattle.ty.specs.Name.{no_id, first_table_id}

-- ---- a function: owner, name, visibility, flag (bit 0 builtin), count, result; then of each parameter name, flag (bit 0 default, bit 1 vararg), type
unfoldable pub params_by : Record → List FieldAt → List Param
params_by r [] = []
params_by r (n ∷ []) = []
params_by r (n ∷ f ∷ []) = []
params_by r (n ∷ f ∷ t ∷ ps) =
    record { name = n.value; default = eqb (f.value % 2) 1; vararg = leb 2 f.value; ty = field_bytes r t } ∷ params_by r ps

unfoldable pub overload_from : Record → List FieldAt → Overload
overload_from r ps =
    record {
      builtin = eqb (nth_field ps 3).value 1;
      visibility = (nth_field ps 2).value;
      params = params_by r (drop 6 ps);
      result = field_bytes r (nth_field ps 5);
    }

unfoldable pub overload_of : Record → Overload
overload_of r = overload_from r (fields_in r)

-- ---- the others

-- of the first of some records, d where there is none
module _ {A : Type 0} where
  abbrev pub of_first : A → (Record → A) → List Record → A
  of_first d f [] = d
  of_first d f (r ∷ rs) = f r

-- a name record with one capital letter, A to Z
abbrev pub one_capital : Record → Bool
one_capital r = eqb (get_or r 1 0) 1 && (leb 65 (get_or r 2 0) && leb (get_or r 2 0) 90)

-- what some records say; of the built-in names none is one letter
unfoldable pub symbols_in : List Record → Symbols
symbols_in rs =
    record {
      classes = length (of_kind 2 rs);
      super_of = λ class. of_first no_id superclass_field (keyed 2 (class ∷ []) rs);
      first_interface_of = λ class. of_first no_id first_interface_field (keyed 2 (class ∷ []) rs);
      second_interface_of = λ class. of_first no_id second_interface_field (keyed 2 (class ∷ []) rs);
      package_of = λ class. of_first no_id package_field (keyed 2 (class ∷ []) rs);
      in_types = λ class. of_first false (λ r. eqb (types_field r) 1) (keyed 2 (class ∷ []) rs);
      operators_of = λ class. of_first none (λ r. some (mask_field r)) (keyed 3 (class ∷ []) rs);
      functions_of = λ owner name. map overload_of (keyed 4 (owner ∷ name ∷ []) rs);
      field_of = λ owner name. of_first none (λ r. some (type_field r)) (keyed 5 (owner ∷ name ∷ []) rs);
      visibility_of = λ owner name. of_first none (λ r. some (visibility_field r)) (keyed 6 (owner ∷ name ∷ []) rs);
      is_suspend = λ owner name. of_first false (λ r. true) (keyed 7 (owner ∷ name ∷ []) rs);
      is_variant = λ owner name. of_first false (λ r. true) (keyed 8 (owner ∷ name ∷ []) rs);
      is_capital = λ id. choose (ltb id first_table_id) false (one_capital (get_or (of_kind 1 rs) (id - first_table_id) []));
    }

abbrev pub symbols_of : List ℕ → Symbols
symbols_of t = symbols_in (records_of t)
