-- What the walk over a function list keeps.
use Rattle.std.specs.Prelude.{ℕ, ◌+◌, ◌≤◌, List, [], ◌∷◌, map, eqb, ltb, length, Option as Maybe, Some, None}
use Rattle.std.specs.Option.{option_or}
use Rattle.std.proofs.Math.Option.{Option, none, some}
use Rattle.ty.specs.Choose.{choose}
use Rattle.ty.specs.declared.Part.{Part}
use Rattle.symbol.specs.Lookup.{symbols_of}
use Rattle.symbol.specs.Inside.LookupAnswer.{overload_at}
use Rattle.symbol.specs.Inside.FunctionFields.{function_at}
use Rattle.symbol.specs.Inside.Places.{first_place}
use Rattle.index.specs.declared.index.Place.{Place}
use Rattle.area.specs.Diagnostic.{Diag, count_limit}
use Rattle.area.specs.declared.reports.Reports.{Reports}
use Rattle.scoring.specs.Arg.{Arg}
use Rattle.scoring.specs.Score.{score}
use Rattle.overload.specs.Reports.{unknowns, all_unknown}
use Rattle.overload.specs.Inside.BestPlace.{BestPlace, nowhere, best_at, chosen_at}
use Rattle.overload.specs.declared.calls.Highest.{Highest}
use Rattle.overload.specs.declared.calls.Tally.{Tally}

-- ---- the highest score

-- how many have it
abbrev pub many_of : Maybe Highest → ℕ
many_of None = 0
many_of (Some h) = h.many

-- the best of some overloads, as it is kept
unfoldable pub highest_at : List ℕ → BestPlace → Maybe Highest
highest_at t nowhere = None
highest_at t (best_at s p n) = Some (record { score = s; many = n; result = (function_at t p).result })

-- one overload has the score s; r is where its result lies
abbrev pub highest_one : Part → ℕ → Highest
highest_one r s = record { score = s; many = 1; result = r }

-- one more has the highest score
abbrev pub highest_more : Highest → Highest
highest_more h = record { score = h.score; many = h.many + 1; result = h.result }

-- the highest score h once one more overload has its score, if any; r is where its result lies
unfoldable pub higher_with : Part → Option ℕ → Maybe Highest → Maybe Highest
higher_with r none h = h
higher_with r (some s) None = Some (highest_one r s)
higher_with r (some s) (Some h) =
    choose (ltb h.score s) (Some (highest_one r s)) (choose (eqb h.score s) (Some (highest_more h)) (Some h))

-- ---- the tally

-- the unknown names among the arguments xs, of the overload at a place and of those at some places
abbrev pub unknowns_at : List ℕ → Place → List Arg → List Diag
unknowns_at t p xs = unknowns (overload_at t p).params 1 xs

abbrev pub all_unknown_at : List ℕ → List Place → List Arg → List Diag
all_unknown_at t ps xs = all_unknown (map (overload_at t) ps) xs

-- a tally once the overload at a place is taken too, for the arguments xs
abbrev pub tally_with : List ℕ → List Arg → Tally → Place → Tally
tally_with t xs w p =
    record {
      first = option_or w.first (Some p);
      fitting = w.fitting + 1;
      highest = higher_with (function_at t p).result (score (symbols_of t) (overload_at t p) xs) w.highest;
    }

-- and once those at some places are
unfoldable pub tally_more : List ℕ → List Arg → Tally → List Place → Tally
tally_more t xs w [] = w
tally_more t xs w (p ∷ ps) = tally_more t xs (tally_with t xs w p) ps

-- the tally of the overloads at some places
abbrev pub tally_of : List ℕ → List Arg → List Place → Tally
tally_of t xs ps = record { first = first_place ps; fitting = length ps; highest = highest_at t (chosen_at t ps xs) }

-- one call reports fewer: a list has at most 60,000 functions, and each reports at most 16 unknown names
abbrev pub most_diagnostics : ℕ
most_diagnostics = 1048576

-- so that no count wraps
pub record Room (w : Tally) (b : Reports) : Type 0 where
  pub fitting : w.fitting ≤ 60000
  pub many : many_of w.highest ≤ 60000
  pub count : b.count + 17 ≤ count_limit
