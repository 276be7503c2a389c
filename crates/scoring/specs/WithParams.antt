-- Which parameter each argument of a call gets. Document 02, order 4: "the unnamed arguments take, in turn, the parameters that no argument names, each
-- parameter once"; "a named argument is compared with the parameter of its name".
use Rattle.std.specs.Prelude.{ℕ, ◌≡◌, Bool, false, ◌||◌, List, [], ◌∷◌, eqb}
use Rattle.std.proofs.Math.Option.{Option, none, some}
use Rattle.ty.specs.Choose.{choose}
use Rattle.symbol.specs.Symbols.{Param}
use Rattle.scoring.specs.Arg.{Arg}

-- the first parameter of a name
unfoldable pub param_named : ℕ → List Param → Option Param
param_named id [] = none
param_named id (p ∷ ps) = choose (eqb p.name id) (some p) (param_named id ps)

unfoldable pub is_name : Option ℕ → ℕ → Bool
is_name none id = false
is_name (some m) id = eqb m id

-- an argument has that name, wherever it stands
unfoldable pub some_arg_named : List Arg → ℕ → Bool
some_arg_named [] id = false
some_arg_named (a ∷ xs) id = is_name a.name id || some_arg_named xs id

-- "the parameters that no argument names"
unfoldable pub free_params : List Param → List Arg → List Param
free_params [] xs = []
free_params (p ∷ ps) xs = choose (some_arg_named xs p.name) (free_params ps xs) (p ∷ free_params ps xs)

-- the next of some parameters, and those behind it
unfoldable pub next_param : List Param → Option Param
next_param [] = none
next_param (f ∷ fs) = some f

unfoldable pub behind_next : List Param → List Param
behind_next [] = []
behind_next (f ∷ fs) = fs

-- the parameter that an argument gets, by its name if it has one: "the parameter of its name", or the next "in turn" of the free ones fs that are left
unfoldable pub parameter_for : List Param → List Param → Option ℕ → Option Param
parameter_for ps fs (some id) = param_named id ps
parameter_for ps fs none = next_param fs

-- the free ones that are left behind it
unfoldable pub left_behind : List Param → Option ℕ → List Param
left_behind fs (some id) = fs
left_behind fs none = behind_next fs

-- an argument, and the parameter that it gets: none where its name is unknown, or where it has no name and no free parameter is left
pub record WithParam : Type 0 where
  pub arg : Arg
  pub param : Option Param

unfoldable pub in_turn : List Param → List Param → List Arg → List WithParam
in_turn ps fs [] = []
in_turn ps fs (a ∷ xs) = record { arg = a; param = parameter_for ps fs a.name } ∷ in_turn ps (left_behind fs a.name) xs

-- a call's arguments, each with the parameter that it gets
abbrev pub with_params : List Param → List Arg → List WithParam
with_params ps xs = in_turn ps (free_params ps xs) xs

-- no two parameters have one name, as in every function of an accepted table
unfoldable pub NamesDiffer : List Param → Type 0
NamesDiffer [] = Unit {0}
NamesDiffer (p ∷ ps) = (param_named p.name ps ≡ none) × NamesDiffer ps
