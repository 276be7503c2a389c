-- An overload's score for a call's arguments. Document 01, "Corners in checker.rs": an exact match scores 2, an accepted one 1. Document 02, order 4: each
-- argument against the parameter that it gets; "An unnamed argument left without a parameter, as only a vararg allows, scores 1".
use Rattle.std.specs.Prelude.{ℕ, ◌+◌, List, [], ◌∷◌}
use Rattle.std.proofs.Math.Option.{Option, none, some}
use Rattle.ty.specs.Choose.{choose}
use Rattle.ty.specs.Bytes.{Ty, same_bytes}
use Rattle.symbol.specs.Symbols.{Param, Overload, Symbols}
use Rattle.rules.specs.Accept.{param_accepts}
use Rattle.scoring.specs.Arg.{Arg}
use Rattle.scoring.specs.WithParams.{WithParam, with_params}

-- a sum of scores; none is no match
unfoldable pub plus : Option ℕ → Option ℕ → Option ℕ
plus none b = none
plus (some a) none = none
plus (some a) (some b) = some (a + b)

module _ (S : Symbols) where
  -- an argument's type against a parameter
  unfoldable pub compared : Param → Ty → Option ℕ
  compared p x = choose (same_bytes x p.ty) (some 2) (choose (param_accepts S p.ty x p.vararg) (some 1) none)

  -- an argument, by its name and its type, against the parameter that it gets; an unknown name is no match
  unfoldable pub score_one : Option Param → Option ℕ → Ty → Option ℕ
  score_one (some p) n x = compared p x
  score_one none none x = some 1
  score_one none (some id) x = none

  unfoldable pub total : List WithParam → Option ℕ
  total [] = some 0
  total (z ∷ zs) = plus (score_one z.param z.arg.name z.arg.ty) (total zs)

  -- an overload's score, if it matches
  unfoldable pub score : Overload → List Arg → Option ℕ
  score o xs = total (with_params o.params xs)
