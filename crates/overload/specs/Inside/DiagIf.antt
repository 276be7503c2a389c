-- What is reported, by a test.
use Rattle.std.specs.Prelude.{ℕ, Bool, true, false, List, [], ◌∷◌}
use Rattle.std.proofs.Math.Option.{Option, none, some}
use Rattle.ty.specs.Choose.{choose}
use Rattle.area.specs.Diagnostic.{Diag}
use Rattle.operators.specs.Diag.{diag}
use Rattle.scoring.specs.WithParams.{param_named}
use Rattle.symbol.specs.Symbols.{Param, Symbols}
use Rattle.ty.specs.Bytes.{Ty}
use Rattle.overload.specs.Reports.{suits}

-- one diagnostic, where a test holds
unfoldable pub diag_if : Bool → ℕ → ℕ → ℕ → List Diag
diag_if test kind node number = choose test (diag kind node number ∷ []) []

-- an argument has a name that no parameter has
unfoldable pub missing : Option Param → Bool
missing none = true
missing (some p) = false

unfoldable pub unknown : Option ℕ → List Param → Bool
unknown none ps = false
unknown (some id) ps = missing (param_named id ps)

-- an argument of the type x suits the parameter that was found, if any
unfoldable pub suits_param : Symbols → Option Param → Ty → Bool
suits_param S none x = true
suits_param S (some p) x = suits S p.ty x p.vararg
