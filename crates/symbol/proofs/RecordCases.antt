-- Worked records, computed from the fields: one of each kind, a class without superclass, a function with a type without end, and one of no kind.
use Prim.Native.Nat.{ℕ}
use mathlib.Core.Bool.{Bool, true, false}
use mathlib.Core.List.{List, [], ◌∷◌, ◌++◌}
use mathlib.Core.Path.{◌≡◌, refl}
use Rattle.symbol.proofs.TableCases.{names, class_a, class_b, operators_a, functions, field_a, others, endless, open_function}
use Rattle.record.specs.Layout.{param_fields, fields_of, good_name, fields_from, any_field, each_field, lengths, is_malformed, is_endless, has_error, ids_used, param_names, record_kind, record_size}
use Rattle.ty.specs.Choose.{choose}
use Rattle.ty.specs.Bytes.{size_width}
use Rattle.ty.specs.Read.{body_length, child_count, number_at, id_in, item_of, item_at, no_end, read_from, read_type}
use Rattle.ty.specs.Ids.{own_ids, ids_from, ids_in}

-- what a record is: kind, length, ids, parameters' names, malformed, endless, Error
pub record Is (s : List ℕ) (kind len : ℕ) (ids params : List ℕ) (bad unended error : Bool) : Type 0 where
  pub is_kind_lem : record_kind s ≡ kind
  pub is_long : record_size s ≡ len
  pub uses : ids_used s ≡ ids
  pub named : param_names s ≡ params
  pub is_bad : is_malformed s ≡ bad
  pub is_open : is_endless s ≡ unended
  pub errs : has_error s ≡ error

pub record Kinds : Type 0 where
  pub a_name : Is names 1 26 [] [] false false false
  pub a_class : Is (class_b ++ operators_a) 2 12 (41 ∷ 40 ∷ 6 ∷ 40 ∷ []) [] false false false
  pub without : Is class_a 2 12 (40 ∷ []) [] false false false
  pub operators : Is operators_a 3 5 (40 ∷ []) [] false false false
  pub a_function : Is functions 4 21 (40 ∷ 41 ∷ 6 ∷ 7 ∷ 40 ∷ []) (6 ∷ 7 ∷ []) false false false
  pub open_function_lem : Is open_function 4 211 (41 ∷ 40 ∷ 6 ∷ 7 ∷ []) (6 ∷ 7 ∷ []) false true true
  pub a_field : Is (field_a ++ others) 5 7 (40 ∷ 41 ∷ []) [] false false false
  pub visibility : Is (6 ∷ 40 ∷ 0 ∷ 41 ∷ 0 ∷ 3 ∷ []) 6 6 (40 ∷ 41 ∷ []) [] false false false
  pub suspend : Is (7 ∷ 255 ∷ 255 ∷ 41 ∷ 0 ∷ 9 ∷ []) 7 5 (41 ∷ []) [] false false false
  pub variant : Is (8 ∷ 255 ∷ 255 ∷ 6 ∷ 0 ∷ []) 8 5 (65535 ∷ 6 ∷ []) [] false false false
  pub no_kind_lem : Is (9 ∷ 0 ∷ []) 0 2 [] [] true false false

pub kinds : Kinds
unfolding choose size_width body_length child_count number_at id_in item_of item_at no_end read_from read_type own_ids ids_from ids_in param_fields fields_of good_name fields_from any_field each_field lengths record_kind record_size names class_a class_b operators_a functions field_a others endless open_function
kinds =
    record {
      a_name = record { is_kind_lem = refl; is_long = refl; uses = refl; named = refl; is_bad = refl; is_open = refl; errs = refl };
      a_class = record { is_kind_lem = refl; is_long = refl; uses = refl; named = refl; is_bad = refl; is_open = refl; errs = refl };
      without = record { is_kind_lem = refl; is_long = refl; uses = refl; named = refl; is_bad = refl; is_open = refl; errs = refl };
      operators = record { is_kind_lem = refl; is_long = refl; uses = refl; named = refl; is_bad = refl; is_open = refl; errs = refl };
      a_function = record { is_kind_lem = refl; is_long = refl; uses = refl; named = refl; is_bad = refl; is_open = refl; errs = refl };
      open_function_lem = record { is_kind_lem = refl; is_long = refl; uses = refl; named = refl; is_bad = refl; is_open = refl; errs = refl };
      a_field = record { is_kind_lem = refl; is_long = refl; uses = refl; named = refl; is_bad = refl; is_open = refl; errs = refl };
      visibility = record { is_kind_lem = refl; is_long = refl; uses = refl; named = refl; is_bad = refl; is_open = refl; errs = refl };
      suspend = record { is_kind_lem = refl; is_long = refl; uses = refl; named = refl; is_bad = refl; is_open = refl; errs = refl };
      variant = record { is_kind_lem = refl; is_long = refl; uses = refl; named = refl; is_bad = refl; is_open = refl; errs = refl };
      no_kind_lem = record { is_kind_lem = refl; is_long = refl; uses = refl; named = refl; is_bad = refl; is_open = refl; errs = refl };
    }
