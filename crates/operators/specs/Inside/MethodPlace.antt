-- Where the type of an operator method lies: the climb of `OperatorMethod`, with a place of the table for the type. The law `operator_placed` says that the
-- bytes there are that type.
use Rattle.std.specs.Prelude.{ℕ, zero, suc, leb, eqb, ◌&&◌, List, Option, None, Some}
use Rattle.std.proofs.Math.Option as maybe
use Rattle.index.specs.Inside.Found.{Found}
use Rattle.operators.specs.Operand.{is_kind}
use Rattle.operators.specs.Operator.{ge_op}
use Rattle.operators.specs.OperatorMethod.{method_id, has_operator}
use Rattle.area.specs.declared.Source.TheVariants.{Kind, Part}
use Rattle.area.specs.declared.Source.{Source}
use Rattle.symbol.specs.Inside.FunctionFields.{function_at}
use Rattle.symbol.specs.Inside.Places.{first_place, function_places}
use Rattle.symbol.specs.Lookup.{symbols_of}
use Rattle.ty.specs.Bytes.{Ty, name_of}
use Rattle.ty.specs.Choose.{choose}
use Rattle.ty.specs.Kind.{any_kind, named_kind}
use Rattle.ty.specs.Name.{no_id}

module _ (t : List ℕ) where
  -- the result type of a function that was looked for, and Any where there is none
  abbrev pub result_place : Found → Source
  result_place None = Kind any_kind
  result_place (Some p) = Part (function_at t p).result

  -- of the first function of a class and a name
  unfoldable pub first_result_place : ℕ → ℕ → Source
  first_result_place class name = result_place (first_place (function_places t class name))

  -- class c has the operator set that is given, if any; `up` is what its superclass says
  unfoldable pub class_place : ℕ → ℕ → maybe.Option ℕ → Option Source → Option Source
  class_place op c maybe.none up = None
  class_place op c (maybe.some mask) up = choose (has_operator mask op) (Some (first_result_place c (method_id op))) up

  -- the climb from class c, of at most so many classes
  unfoldable pub climb_place : ℕ → ℕ → ℕ → Option Source
  climb_place zero op c = None
  climb_place (suc f) op c =
      choose (eqb c no_id) None (class_place op c ((symbols_of t).operators_of c) (climb_place f op ((symbols_of t).super_of c)))

  -- the whole climb
  abbrev pub climb_place_from : ℕ → ℕ → Option Source
  climb_place_from op c = climb_place (suc (symbols_of t).classes) op c

  -- the operator method of a left operand of the type l
  unfoldable pub operator_place : ℕ → Ty → Option Source
  operator_place op l = choose (leb op ge_op && is_kind named_kind l) (climb_place_from op (name_of l)) None
