-- The list of functions that a call finds, and what is reported at the call before its arguments are visited.
use Rattle.std.specs.Prelude.{ℕ, eqb, List, [], ◌∷◌}
use Rattle.std.proofs.Math.Option.{Option, none, some}
use Rattle.overload.specs.Before.{call_reports, method_reports}
use Rattle.question.specs.declared.Header.{Header}
use Rattle.operators.specs.Out.{Report}
use Rattle.symbol.specs.Symbols.{Overload, Symbols}
use Rattle.ty.specs.Bytes.{Ty, kind_of, name_of, non_null}
use Rattle.ty.specs.Choose.{choose}
use Rattle.ty.specs.Kind.{named_kind}
use Rattle.ty.specs.Name.{no_id}

pub record Callee : Type 0 where
  pub before : List Report
  pub overloads : List Overload

-- document 01, "Table and question": a base is the object's type, one Nullable taken off; its name, if it is Named
unfoldable pub base_name : Ty → Option ℕ
base_name t = choose (eqb (kind_of (non_null t)) named_kind) (some (name_of (non_null t))) none

unfoldable pub call_in : List Report → List Overload → Option Callee
call_in rs [] = none
call_in rs (o ∷ os) = some (record { before = rs; overloads = o ∷ os })

-- a call: none where the ownerless list of that name is empty
abbrev pub call_of : Symbols → Header → ℕ → Option Callee
call_of S H id = call_in (call_reports S H id) (S.functions_of no_id id)

-- a method call on an owner; access goes by the list's first function
unfoldable pub method_in : Symbols → Header → ℕ → ℕ → List Overload → Option Callee
method_in S H owner id [] = none
method_in S H owner id (o ∷ os) = some (record { before = method_reports S H o.visibility owner id; overloads = o ∷ os })

unfoldable pub method_by : Symbols → Header → ℕ → Option ℕ → Option Callee
method_by S H id none = none
method_by S H id (some owner) = method_in S H owner id (S.functions_of owner id)

-- a method call on an object of the type t: none where its base isn't Named or has no list of that name
abbrev pub method_of : Symbols → Header → ℕ → Ty → Option Callee
method_of S H id t = method_by S H id (base_name t)
