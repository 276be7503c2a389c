-- Worked tables, computed from the definitions: an accepted one with its lookups, and one for each number.
use Prim.Native.Nat.{ℕ}
use mathlib.Core.Path.{◌≡◌, refl}
use mathlib.Core.Bool.{true, false}
use mathlib.Core.List.{List, [], ◌∷◌, ◌++◌}
use mathlib.Core.Option.{some}
use lib.ListN.{replicate}
use Rattle.ty.specs.Choose.{choose}
use Rattle.ty.specs.Bytes.{same_bytes, size_width}
use Rattle.ty.specs.Name.{all_defined}
use Rattle.ty.specs.Read.{body_length, child_count, number_at, id_in, item_of, item_at, no_end, read_from, read_type}
use Rattle.ty.specs.Ids.{own_ids, ids_from, ids_in}
use Rattle.record.specs.Spelling.{builtin_names, spelled}
use Rattle.record.specs.Layout.{param_fields, fields_of, good_name, fields_from, any_field, each_field, lengths, record_kind, record_size, value_in, bytes_in}
use Rattle.symbol.specs.Lookup.{params_by, overload_from, overload_of, symbols_in, symbols_of}
use Rattle.record.specs.TableRefused.{occurs, repeats, key_repeated, is_late, record_fault, first_fault, table_fault}
use Rattle.symbol.specs.Subclass.{climbs, is_subclass}
use Rattle.record.specs.Table.{records_from, of_kind, key_of, keyed}

-- ids 40 A, 41 b
unfoldable pub names : List ℕ
names = (1 ∷ 1 ∷ 65 ∷ replicate 23 0) ++ (1 ∷ 1 ∷ 98 ∷ replicate 23 0)

-- class A in `types`, then class b of superclass A, second interface 6 and package A
unfoldable pub class_a : List ℕ
class_a = 2 ∷ 40 ∷ 0 ∷ 255 ∷ 255 ∷ 255 ∷ 255 ∷ 255 ∷ 255 ∷ 255 ∷ 255 ∷ 1 ∷ []

unfoldable pub class_b : List ℕ
class_b = 2 ∷ 41 ∷ 0 ∷ 40 ∷ 0 ∷ 255 ∷ 255 ∷ 6 ∷ 0 ∷ 40 ∷ 0 ∷ 0 ∷ []

-- class b with parents a, b, c, of which each has two bytes
unfoldable pub class_of : List ℕ → List ℕ → List ℕ → List ℕ
class_of a b c = (2 ∷ 41 ∷ 0 ∷ []) ++ a ++ b ++ c ++ (255 ∷ 255 ∷ 0 ∷ [])

unfoldable pub no_one : List ℕ
no_one = 255 ∷ 255 ∷ []

unfoldable pub is_a : List ℕ
is_a = 40 ∷ 0 ∷ []

unfoldable pub is_b : List ℕ
is_b = 41 ∷ 0 ∷ []

unfoldable pub is_undefined : List ℕ
is_undefined = 42 ∷ 0 ∷ []

-- operators of A: plus and ge
unfoldable pub operators_a : List ℕ
operators_a = 3 ∷ 40 ∷ 0 ∷ 1 ∷ 4 ∷ []

-- A.b(plus: Int = .., minus: vararg List(Named A)): Nullable(String), Protected; and b(): Unit, builtin
unfoldable pub functions : List ℕ
functions =
    (4 ∷ 40 ∷ 0 ∷ 41 ∷ 0 ∷ 1 ∷ 0 ∷ 2 ∷ 12 ∷ 8 ∷ 6 ∷ 0 ∷ 1 ∷ 0 ∷ 7 ∷ 0 ∷ 2 ∷ 15 ∷ 17 ∷ 40 ∷ 0 ∷ [])
    ++ (4 ∷ 255 ∷ 255 ∷ 41 ∷ 0 ∷ 0 ∷ 1 ∷ 0 ∷ 11 ∷ [])

unfoldable pub field_a : List ℕ
field_a = 5 ∷ 40 ∷ 0 ∷ 41 ∷ 0 ∷ 12 ∷ 0 ∷ []

unfoldable pub others : List ℕ
others = (6 ∷ 40 ∷ 0 ∷ 41 ∷ 0 ∷ 3 ∷ []) ++ (7 ∷ 255 ∷ 255 ∷ 41 ∷ 0 ∷ []) ++ (8 ∷ 40 ∷ 0 ∷ 6 ∷ 0 ∷ [])

unfoldable pub table : List ℕ
table = names ++ class_a ++ class_b ++ operators_a ++ functions ++ field_a ++ others

-- a parameter's name twice
unfoldable pub twice : List ℕ
twice = 4 ∷ 255 ∷ 255 ∷ 0 ∷ 0 ∷ 0 ∷ 0 ∷ 2 ∷ 11 ∷ 6 ∷ 0 ∷ 0 ∷ 0 ∷ 6 ∷ 0 ∷ 0 ∷ 0 ∷ []

-- 192 Nullable over Int: a type without end
unfoldable pub endless : List ℕ
endless = replicate 192 12 ++ (0 ∷ [])

-- a function whose second parameter has no end: f(6: Int, 7: Nullable.. )
unfoldable pub open_function : List ℕ
open_function = 4 ∷ 255 ∷ 255 ∷ 41 ∷ 0 ∷ 0 ∷ 0 ∷ 2 ∷ 17 ∷ 40 ∷ 0 ∷ 6 ∷ 0 ∷ 0 ∷ 0 ∷ 7 ∷ 0 ∷ 0 ∷ endless

pub record Cases : Type 0 where
  pub empty : table_fault [] ≡ 0
  pub whole : table_fault table ≡ 0
  pub long : table_fault (replicate 60001 0) ≡ 1
  pub long_enough : table_fault (names ++ replicate 60001 0) ≡ 1
  pub kind_0 : table_fault (0 ∷ []) ≡ 2
  pub kind_9 : table_fault (9 ∷ []) ≡ 2
  pub cut : table_fault (names ++ (2 ∷ 40 ∷ 0 ∷ 255 ∷ 255 ∷ 255 ∷ 255 ∷ 255 ∷ 255 ∷ 255 ∷ 255 ∷ [])) ≡ 2
  pub falls : table_fault (names ++ class_a ++ operators_a ++ class_b) ≡ 3
  pub falls_malformed : table_fault (names ++ class_a ++ (1 ∷ 0 ∷ [])) ≡ 2
  pub undefined : table_fault class_a ≡ 4
  pub no_owner : table_fault (names ++ (5 ∷ 255 ∷ 255 ∷ 41 ∷ 0 ∷ 0 ∷ [])) ≡ 4
  pub again : table_fault (names ++ class_a ++ field_a ++ field_a) ≡ 5
  pub builtin : table_fault (1 ∷ 3 ∷ 103 ∷ 101 ∷ 116 ∷ replicate 21 0) ≡ 5
  pub parameter : table_fault twice ≡ 5
  pub late : table_fault (names ++ class_b ++ class_a) ≡ 6
  pub own : table_fault (names ++ class_of is_b no_one no_one) ≡ 6
  pub late_first : table_fault (names ++ class_of no_one is_a no_one ++ class_a) ≡ 6
  pub late_second : table_fault (names ++ class_of no_one no_one is_a ++ class_a) ≡ 6
  pub late_all : table_fault (names ++ class_of is_a is_a is_a ++ class_a) ≡ 6
  pub own_second : table_fault (names ++ class_a ++ class_of is_a is_a is_b) ≡ 6
  pub twice_taken : table_fault (names ++ class_a ++ class_of is_a is_a is_a) ≡ 0
  pub without_record : table_fault (names ++ class_of no_one is_a is_a) ≡ 0
  pub undefined_first : table_fault (names ++ class_of no_one is_undefined no_one) ≡ 4
  pub undefined_second : table_fault (names ++ class_of no_one is_b is_undefined) ≡ 4
  pub hidden : table_fault (names ++ class_b ++ (9 ∷ class_a)) ≡ 2
  pub error : table_fault (names ++ (5 ∷ 40 ∷ 0 ∷ 41 ∷ 0 ∷ 12 ∷ 21 ∷ [])) ≡ 7
  pub no_end_lem : table_fault (names ++ (5 ∷ 40 ∷ 0 ∷ 41 ∷ 0 ∷ endless)) ≡ 7
  pub no_end_again : table_fault (names ++ field_a ++ (5 ∷ 40 ∷ 0 ∷ 41 ∷ 0 ∷ endless)) ≡ 5
  pub mask_bit : table_fault (names ++ (3 ∷ 40 ∷ 0 ∷ 0 ∷ 8 ∷ [])) ≡ 2
  pub name_dot : table_fault (1 ∷ 1 ∷ 46 ∷ replicate 23 0) ≡ 2
  pub name_none : table_fault (1 ∷ 0 ∷ replicate 24 0) ≡ 2
  pub name_padding : table_fault (1 ∷ 1 ∷ 65 ∷ 65 ∷ replicate 22 0) ≡ 2
  pub many : table_fault (names ++ (4 ∷ 40 ∷ 0 ∷ 41 ∷ 0 ∷ 0 ∷ 0 ∷ 17 ∷ replicate 69 0)) ≡ 2
  pub in_type : table_fault (names ++ (5 ∷ 40 ∷ 0 ∷ 41 ∷ 0 ∷ 12 ∷ 17 ∷ 42 ∷ 0 ∷ [])) ≡ 4
  pub functions_repeat : table_fault (names ++ functions ++ functions) ≡ 0
  pub open_function_lem : table_fault (names ++ open_function) ≡ 7
  pub superclass : (symbols_of table).super_of 41 ≡ 40
  pub interface_1 : (symbols_of table).first_interface_of 41 ≡ 65535
  pub interface_2 : (symbols_of table).second_interface_of 41 ≡ 6
  pub pkg : (symbols_of table).package_of 41 ≡ 40
  pub listed : (symbols_of table).in_types 40 ≡ true
  pub unlisted : (symbols_of table).in_types 41 ≡ false
  pub mask : (symbols_of table).operators_of 40 ≡ some 1025
  pub field : (symbols_of table).field_of 40 41 ≡ some (12 ∷ 0 ∷ [])
  pub level : (symbols_of table).visibility_of 40 41 ≡ some 3
  pub suspend : (symbols_of table).is_suspend 65535 41 ≡ true
  pub variant : (symbols_of table).is_variant 40 6 ≡ true
  pub capital : (symbols_of table).is_capital 40 ≡ true
  pub small : (symbols_of table).is_capital 41 ≡ false
  pub above : is_subclass (symbols_of table) 41 40 ≡ true
  pub below : is_subclass (symbols_of table) 40 41 ≡ false
  pub method :
      (symbols_of table).functions_of 40 41
      ≡ record {
        builtin = false;
        visibility = 1;
        params =
            record { name = 6; default = true; vararg = false; ty = 0 ∷ [] }
            ∷ record { name = 7; default = false; vararg = true; ty = 15 ∷ 17 ∷ 40 ∷ 0 ∷ [] }
            ∷ [];
        result = 12 ∷ 8 ∷ [];
      }
      ∷ []
  pub plain :
      (symbols_of table).functions_of 65535 41 ≡ record { builtin = true; visibility = 0; params = []; result = 11 ∷ [] } ∷ []

pub cases : Cases
unfolding choose same_bytes size_width body_length child_count number_at id_in item_of item_at no_end read_from read_type own_ids ids_from ids_in builtin_names spelled param_fields fields_of good_name fields_from any_field each_field lengths record_kind record_size value_in bytes_in records_from of_kind key_of keyed all_defined occurs repeats key_repeated is_late record_fault first_fault table_fault params_by overload_from overload_of symbols_in climbs is_subclass names class_a class_b class_of no_one is_a is_b is_undefined operators_a functions field_a others table twice endless open_function
cases =
    record {
      empty = refl;
      whole = refl;
      long = refl;
      long_enough = refl;
      kind_0 = refl;
      kind_9 = refl;
      cut = refl;
      falls = refl;
      falls_malformed = refl;
      undefined = refl;
      no_owner = refl;
      again = refl;
      builtin = refl;
      parameter = refl;
      late = refl;
      own = refl;
      late_first = refl;
      late_second = refl;
      late_all = refl;
      own_second = refl;
      twice_taken = refl;
      without_record = refl;
      undefined_first = refl;
      undefined_second = refl;
      hidden = refl;
      error = refl;
      no_end_lem = refl;
      no_end_again = refl;
      mask_bit = refl;
      name_dot = refl;
      name_none = refl;
      name_padding = refl;
      many = refl;
      in_type = refl;
      functions_repeat = refl;
      open_function_lem = refl;
      superclass = refl;
      interface_1 = refl;
      interface_2 = refl;
      pkg = refl;
      listed = refl;
      unlisted = refl;
      mask = refl;
      field = refl;
      level = refl;
      suspend = refl;
      variant = refl;
      capital = refl;
      small = refl;
      above = refl;
      below = refl;
      method = refl;
      plain = refl;
    }
