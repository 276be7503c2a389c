-- What an argument gets, as the code answers it: a parameter, and the place from which on parameters are left to the unnamed arguments behind it.
use Rattle.std.specs.Prelude.{ℕ, Bool, ◌≡◌, List, drop}
use Rattle.std.proofs.Math.Option.{Option}
use Rattle.symbol.specs.Symbols.{Param}
use Rattle.symbol.specs.Inside.LookupAnswer.{params_in}
use Rattle.symbol.specs.declared.functions.Param.{Param as Read}
use Rattle.scoring.specs.WithParams.{parameter_for, left_behind}
use Rattle.scoring.specs.Inside.Params.{param_here}
use Rattle.scoring.specs.Inside.Passes.{unmarked}
use Rattle.scoring.specs.declared.parameter.Received.{Received}

-- the parameters that are left from a place on
unfoldable pub left_in : List ℕ → List Read → List Bool → ℕ → List Param
left_in t ps marks i = unmarked (params_in t (drop i ps)) (drop i marks)

-- r is what an argument of the name n, if any, gets where parameters are left from place i on
pub record ReceivedIs (t : List ℕ) (ps : List Read) (marks : List Bool) (i : ℕ) (n : Option ℕ) (r : Received) : Type 0 where
  pub param : param_here t r.param ≡ parameter_for (params_in t ps) (left_in t ps marks i) n
  pub left : left_in t ps marks r.next ≡ left_behind (left_in t ps marks i) n
