-- The type that lies at the place of a class's field or function.
use Prim.Native.Nat.{ℕ}
use mathlib.Core.List.{List}
use mathlib.Core.Option as maybe
use Rattle.std.specs.Prelude.{Option, None, Some}
use mathlib.Core.Path.{◌≡◌, refl}
use Rattle.index.specs.Inside.Found.{Found}
use Rattle.record.specs.TableRefused.{table_fault}
use Rattle.operators.specs.Inside.Looked.{source_ty}
use Rattle.area.specs.Source.{type_from}
use Rattle.area.specs.declared.Source.{Source}
use Rattle.rules.specs.Inside.Variable.{function_variable, function_place, field_variable, variable_place}
use Rattle.rules.specs.Member.{first_function, field_or, lookup_var}
use Rattle.symbol.proofs.FieldPlaces.{field_part_lem}
use Rattle.symbol.proofs.FunctionLists.{first_listed}
use Rattle.symbol.proofs.FunctionsRead.{function_at-read}
use Rattle.symbol.specs.Inside.LookupAnswer.{part_of, FunctionFound}
use Rattle.symbol.specs.Inside.Places.{first_place, function_places, field_part}
use Rattle.symbol.specs.Lookup.{symbols_of}
use Rattle.symbol.specs.Symbols.{Overload}
use Rattle.ty.specs.declared.Part.{Part}
use Rattle.ty.specs.Bytes.{Ty}

module _ (t : List ℕ) (x y : Ty) where
  function-found : (all : List Overload) (f : Found) → FunctionFound t all f → source_ty t x y (function_variable t f) ≡ first_function all
  unfolding first_function type_from
  function-found all None h = rw h
  function-found all (Some p) h = rw (h.first, ← (function_at-read t p h.here).same)

  field_or_lem : (r : Option Part) (v : Option Source) (F G : maybe.Option Ty) → part_of t r ≡ F → source_ty t x y v ≡ G
      → source_ty t x y (field_variable r v) ≡ field_or F G
  unfolding field_or type_from
  field_or_lem None v F G h k = rw (← h, k)
  field_or_lem (Some p) v F G h k = rw (← h)

  -- THE TYPE AT THE PLACE OF A FIELD OR A FUNCTION
  pub variable_placed : table_fault t ≡ 0 → (owner id : ℕ) → source_ty t x y (variable_place t owner id) ≡ lookup_var (symbols_of t) owner id
  unfolding variable_place function_place
  variable_placed clean owner id =
      field_or_lem (field_part t owner id) (function_variable t (first_place (function_places t owner id))) _ _ (field_part_lem t clean owner id).0
      (function-found _ (first_place (function_places t owner id)) (first_listed t clean owner id _ refl))
