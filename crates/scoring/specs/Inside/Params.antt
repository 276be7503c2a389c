-- The parameters of a function that was read.
use Rattle.std.specs.Prelude.{ℕ, suc, List, [], ◌∷◌, eqb, Option as Maybe, Some, None}
use Rattle.std.specs.List.{slice_get}
use Rattle.std.proofs.Math.Option.{Option, none, some}
use Rattle.symbol.specs.Symbols.{Param}
use Rattle.symbol.specs.Inside.LookupAnswer.{param_seen, params_in}
use Rattle.symbol.specs.declared.functions.Param.{Param as Read}
use Rattle.ty.specs.Choose.{choose}

-- the place of the first parameter of a name, the first parameter here standing at i
unfoldable pub place_named : ℕ → ℕ → List Param → Option ℕ
place_named id i [] = none
place_named id i (p ∷ ps) = choose (eqb p.name id) (some i) (place_named id (suc i) ps)

-- a place as the code answers it
abbrev pub as_place : Option ℕ → Maybe ℕ
as_place none = None
as_place (some j) = Some j

-- the parameter that was read, if there is one
abbrev pub param_here : List ℕ → Maybe Read → Option Param
param_here t None = none
param_here t (Some p) = some (param_seen t p)

-- the parameter at a place, if there is one
abbrev pub param_at : List Read → Maybe ℕ → Maybe Read
param_at ps None = None
param_at ps (Some j) = slice_get ps j

-- the place of the first parameter of a name
abbrev pub named_place : List ℕ → List Read → ℕ → Maybe ℕ
named_place t ps id = as_place (place_named id 0 (params_in t ps))
