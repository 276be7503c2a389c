-- The best of the overloads that fit. Document 01, "Corners in checker.rs": the first highest wins; ties are reported with their count.
use Rattle.std.specs.Prelude.{ℕ, suc, List, [], ◌∷◌, eqb, ltb}
use Rattle.std.proofs.Math.Option.{Option, none, some}
use Rattle.ty.specs.Choose.{choose}
use Rattle.symbol.specs.Symbols.{Overload, Symbols}
use Rattle.scoring.specs.Arg.{Arg}
use Rattle.scoring.specs.Score.{score}

-- so far: nobody matches, or the highest score, the first overload that has it and how many have it
pub data Best : Type 0 where
  nobody : Best
  best : ℕ → Overload → ℕ → Best

-- one more overload, with its score
unfoldable pub better : Best → Overload → Option ℕ → Best
better b o none = b
better nobody o (some s) = best s o 1
better (best t first n) o (some s) = choose (ltb t s) (best s o 1) (choose (eqb t s) (best t first (suc n)) (best t first n))

unfoldable pub chosen : Symbols → Best → List Overload → List Arg → Best
chosen S b [] xs = b
chosen S b (o ∷ os) xs = chosen S (better b o (score S o xs)) os xs
