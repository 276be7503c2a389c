-- The best of the overloads that fit, by its place in the table: `Best` with the place of an overload for the overload.
use Rattle.std.specs.Prelude.{ℕ, suc, List, [], ◌∷◌, eqb, ltb}
use Rattle.std.proofs.Math.Option.{Option, none, some}
use Rattle.ty.specs.Choose.{choose}
use Rattle.ty.specs.Kind.{error_kind}
use Rattle.symbol.specs.Lookup.{symbols_of}
use Rattle.symbol.specs.Inside.LookupAnswer.{overload_at}
use Rattle.symbol.specs.Inside.FunctionFields.{function_at}
use Rattle.index.specs.declared.index.Place.{Place}
use Rattle.area.specs.declared.Source.{Source}
use Rattle.area.specs.declared.Source.TheVariants.{Kind, Part}
use Rattle.scoring.specs.Arg.{Arg}
use Rattle.scoring.specs.Score.{score}

-- so far: nobody matches, or the highest score, the place of the first overload that has it and how many have it
pub data BestPlace : Type 0 where
  nowhere : BestPlace
  best_at : ℕ → Place → ℕ → BestPlace

-- one more overload, with its score
unfoldable pub better_place : BestPlace → Place → Option ℕ → BestPlace
better_place b p none = b
better_place nowhere p (some s) = best_at s p 1
better_place (best_at h first n) p (some s) = choose (ltb h s) (best_at s p 1) (choose (eqb h s) (best_at h first (suc n)) (best_at h first n))

unfoldable pub chosen_from : List ℕ → BestPlace → List Place → List Arg → BestPlace
chosen_from t b [] xs = b
chosen_from t b (p ∷ ps) xs = chosen_from t (better_place b p (score (symbols_of t) (overload_at t p) xs)) ps xs

-- the best of the overloads at some places
abbrev pub chosen_at : List ℕ → List Place → List Arg → BestPlace
chosen_at t ps xs = chosen_from t nowhere ps xs

-- where the result of the function at a place lies
abbrev pub result_at : List ℕ → Place → Source
result_at t p = Part (function_at t p).result

-- Error
abbrev pub error_source : Source
error_source = Kind error_kind

-- where the type of a call comes from, whose overloads that fit stand at some places, the best of them being known
unfoldable pub source_of : List ℕ → List Place → BestPlace → Source
source_of t [] b = error_source
source_of t (p ∷ ps) (best_at s first n) = result_at t first
source_of t (p ∷ []) nowhere = result_at t p
source_of t (p ∷ q ∷ ps) nowhere = error_source
