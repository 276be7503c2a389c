-- The type that lies at the place of an operator method.
use Prim.Native.Nat.{ℕ, zero, suc}
use mathlib.Core.List.{List}
use mathlib.Core.Option.{Option, none, some}
use mathlib.Core.Path.{◌≡◌, refl, ap}
use Rattle.index.specs.Inside.Found.{Found, FunctionAt}
use Rattle.index.specs.declared.index.Place.{Place}
use Rattle.operators.proofs.Each.{each}
use Rattle.operators.specs.Inside.Looked.{source_ty}
use Rattle.operators.specs.Inside.MethodPlace.{result_place, first_result_place, class_place, climb_place, operator_place}
use Rattle.operators.specs.OperatorMethod.{method_id, first_result, at_class, climb, operator_return}
use Rattle.area.specs.Source.{type_from}
use Rattle.area.specs.declared.Source.{Source}
use Rattle.std.specs.Prelude as std
use Rattle.record.specs.TableRefused.{table_fault}
use Rattle.symbol.proofs.FunctionLists.{first_listed}
use Rattle.symbol.proofs.FunctionsRead.{function_at-read}
use Rattle.symbol.specs.Inside.LookupAnswer.{FunctionFound}
use Rattle.symbol.specs.Inside.Places.{first_place, function_places}
use Rattle.symbol.specs.Lookup.{symbols_of}
use Rattle.symbol.specs.Symbols.{Overload}
use Rattle.ty.specs.Bytes.{Ty}

-- ---- a list's first function
module _ (t : List ℕ) (clean : table_fault t ≡ 0) where
  -- where there is a first function of an owner and a name, a function stands there
  pub first_stands : (owner name : ℕ) (p : Place) → std.Some p ≡ first_place (function_places t owner name) → FunctionAt t p
  first_stands owner name p e = (first_listed t clean owner name (std.Some p) e).here

  -- what lies there, with the children's types x and y
  module _ (x y : Ty) where
    result_found : (all : List Overload) (f : Found) → FunctionFound t all f → type_from t x y (result_place t f) ≡ first_result all
    unfolding first_result type_from
    result_found all std.None h = rw h
    result_found all (std.Some p) h = rw (h.first, ← (function_at-read t p h.here).same)

    first_result-placed : (class name : ℕ) → type_from t x y (first_result_place t class name) ≡ first_result ((symbols_of t).functions_of class name)
    unfolding first_result_place
    first_result-placed class name =
        result_found ((symbols_of t).functions_of class name) (first_place (function_places t class name)) (first_listed t clean class name _ refl)

    -- ---- an operator method
    class-placed : (op c : ℕ) (F : Option ℕ) (m : std.Option Source) (up : Option Ty) → source_ty t x y m ≡ up
        → source_ty t x y (class_place t op c F m) ≡ at_class (symbols_of t) op c F up
    unfolding class_place at_class
    class-placed op c none m up h = refl
    class-placed op c (some mask) m up h = each (source_ty t x y) _ (ap some (first_result-placed c (method_id op))) h

    climb-placed : (f op c : ℕ) → source_ty t x y (climb_place t f op c) ≡ climb (symbols_of t) f op c
    unfolding climb_place climb
    climb-placed zero op c = refl
    climb-placed (suc f) op c = each (source_ty t x y) _ refl (class-placed op c _ _ _ (climb-placed f op ((symbols_of t).super_of c)))

    -- THE TYPE AT THE PLACE OF AN OPERATOR METHOD
    pub operator_placed : (op : ℕ) (l : Ty) → source_ty t x y (operator_place t op l) ≡ operator_return (symbols_of t) op l
    unfolding operator_place operator_return
    operator_placed op l = each (source_ty t x y) _ (climb-placed _ op _) refl
