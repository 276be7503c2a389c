-- What is reported at single arguments: unknown names, and mismatches. Document 01, "Corners in checker.rs": an unknown named argument is reported once per
-- overload that fits in number. Document 02, order 4: "the check of a single unmatched overload, in argument order", has each argument against the parameter
-- that it gets; an unnamed argument left without a parameter "is not reported; an unknown name adds no mismatch".
use Rattle.std.specs.Prelude.{ℕ, suc, Bool, ◌||◌, List, [], ◌∷◌, ◌++◌, eqb}
use Rattle.std.proofs.Math.Option.{Option, none, some}
use Rattle.ty.specs.Choose.{choose}
use Rattle.ty.specs.Kind.{any_kind, error_kind}
use Rattle.ty.specs.Bytes.{Ty, kind_of}
use Rattle.symbol.specs.Symbols.{Param, Overload, Symbols}
use Rattle.area.specs.DiagnosticKind.{unknown_name_diag, mismatch_diag}
use Rattle.area.specs.Diagnostic.{Diag}
use Rattle.operators.specs.Diag.{diag}
use Rattle.rules.specs.Accept.{param_accepts}
use Rattle.scoring.specs.Arg.{Arg}
use Rattle.scoring.specs.WithParams.{param_named, WithParam}

-- the argument at position i and node n names the parameter that was found, if any
unfoldable pub absent : Option Param → ℕ → ℕ → List Diag
absent none i n = diag unknown_name_diag n i ∷ []
absent (some p) i n = []

unfoldable pub unknown_one : Option ℕ → List Param → ℕ → ℕ → List Diag
unknown_one none ps i n = []
unknown_one (some id) ps i n = absent (param_named id ps) i n

-- the unknown names among arguments, the first of which has position i
unfoldable pub unknowns : List Param → ℕ → List Arg → List Diag
unknowns ps i [] = []
unknowns ps i (a ∷ xs) = unknown_one a.name ps i a.node ++ unknowns ps (suc i) xs

-- once per overload
unfoldable pub all_unknown : List Overload → List Arg → List Diag
all_unknown [] xs = []
all_unknown (o ∷ os) xs = unknowns o.params 1 xs ++ all_unknown os xs

module _ (S : Symbols) where
  -- an argument of the type x suits a parameter of the type p: the parameter accepts it or is Any, or the argument is Error or Any
  abbrev pub suits : Ty → Ty → Bool → Bool
  suits p x vararg = param_accepts S p x vararg || (eqb (kind_of p) any_kind || (eqb (kind_of x) error_kind || eqb (kind_of x) any_kind))

  -- the argument at position i against the parameter that it gets, if any
  unfoldable pub mismatch_one : Option Param → ℕ → Arg → List Diag
  mismatch_one none i a = []
  mismatch_one (some p) i a = choose (suits p.ty a.ty p.vararg) [] (diag mismatch_diag a.node i ∷ [])

  -- the mismatches among arguments, the first of which has position i
  unfoldable pub mismatches : ℕ → List WithParam → List Diag
  mismatches i [] = []
  mismatches i (z ∷ zs) = mismatch_one z.param i z.arg ++ mismatches (suc i) zs
