-- Where order 4 changes nothing in an accepted table. Document 02: "The Rust is the yardstick only where any vararg is its function's last parameter, each
-- call has at most one unnamed argument and either some overload matches or no argument is named". The first condition, on varargs, is not needed here; what
-- overload's `AsBefore` asks of parameters holds of each function.
use Prim.Native.Nat.{ℕ, ◌≤◌}
use lib.ListN.{length}
use mathlib.Core.List.{List, Memᴰ}
use mathlib.Core.Path.{◌≡◌}
use Rattle.overload.proofs.AsBefore.{fitting_fits, as_before}
use Rattle.overload.specs.Inside.AsBefore.{ParamsGood, MatchedOrUnnamed}
use Rattle.overload.specs.Inside.ResolveBefore.{resolve_before}
use Rattle.overload.specs.Inside.ScoreBefore.{score_before}
use Rattle.overload.specs.Order4.{unnamed_count}
use Rattle.overload.specs.Resolve.{resolve}
use Rattle.record.specs.TableRefused.{table_fault}
use Rattle.scoring.specs.Arg.{Arg}
use Rattle.scoring.specs.Arity.{usable}
use Rattle.scoring.specs.Score.{score}
use Rattle.symbol.specs.Lookup.{symbols_of}
use Rattle.symbol.specs.Symbols.{Overload}
use Rattle.typing.proofs.Distinct.{names_apart, few_params}
use Rattle.typing.proofs.Order4Accepted.{candidate_among}
use Rattle.typing.specs.CleanCall.{candidates}
use Rattle.typing.specs.Order4Accepted.{functions}

module _ (t : List ℕ) (owner id : ℕ) where
  -- the functions of an owner and a name, called with the arguments xs at node n
  pub record AsBeforeAccepted (n : ℕ) (xs : List Arg) : Type 0 where
    -- "each call has at most one unnamed argument": a score is the old one
    pub score : (v : Overload) → Memᴰ v (candidates (functions t owner id) xs) → unnamed_count xs ≤ 1
        → score (symbols_of t) v xs ≡ score_before (symbols_of t) v xs
    -- "and either some overload matches or no argument is named": the call comes to what it came to
    pub call : unnamed_count xs ≤ 1 → MatchedOrUnnamed (symbols_of t) (functions t owner id) xs
        → resolve (symbols_of t) (functions t owner id) n xs ≡ resolve_before (symbols_of t) (functions t owner id) n xs

pub as_before_accepted : (t : List ℕ) → table_fault t ≡ 0 → (owner id n : ℕ) (xs : List Arg) → AsBeforeAccepted t owner id n xs
as_before_accepted t e owner id n xs =
    let os : List Overload = functions t owner id in
    let good : (v : Overload) → Memᴰ v (candidates os xs) → ParamsGood v.params =
    λ v m. let k : Memᴰ v os = candidate_among os xs v m in record { differ = names_apart t e owner id v k; few = few_params t e owner id v k } in
    record {
      score = λ v m. (as_before (symbols_of t)).score v xs (good v m) (fitting_fits (length xs) (usable os) v m);
      call = (as_before (symbols_of t)).call os n xs good;
    }
