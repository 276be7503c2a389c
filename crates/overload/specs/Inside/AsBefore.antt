-- Where order 4 changes nothing. Document 02: "The Rust is the yardstick only where any vararg is its function's last parameter, each call has at most one
-- unnamed argument and either some overload matches or no argument is named". The first condition, on varargs, is not needed here.
use Rattle.std.specs.Prelude.{ℕ, ◌≤◌, true, length, ◌⊎◌, ◌≡◌}
use mathlib.Core.List.{List, Memᴰ}
use Rattle.overload.specs.Order4.{unnamed_count, Matches}
use Rattle.overload.specs.Resolve.{resolve}
use Rattle.overload.specs.Inside.ResolveBefore.{resolve_before}
use Rattle.overload.specs.Inside.ScoreBefore.{score_before}
use Rattle.scoring.specs.Arg.{Arg}
use Rattle.scoring.specs.Arity.{usable, fits, fitting}
use Rattle.scoring.specs.Score.{score}
use Rattle.scoring.specs.WithParams.{NamesDiffer}
use Rattle.symbol.specs.Symbols.{Param, Overload, Symbols}

-- the parameters of an overload, as in every function of an accepted table: no two of one name, and at most 16
pub record ParamsGood (ps : List Param) : Type 0 where
  pub differ : NamesDiffer ps
  pub few : length ps ≤ 16

module _ (S : Symbols) where
  -- an overload that a call looks at matches, or no argument is named
  abbrev pub MatchedOrUnnamed : List Overload → List Arg → Type 0
  MatchedOrUnnamed os xs = ((v : Overload) × Memᴰ v (fitting (length xs) (usable os)) × Matches S v xs) ⊎ (unnamed_count xs ≡ length xs)

  pub record AsBefore : Type 0 where
    -- "each call has at most one unnamed argument": a score is the old one
    pub score : (o : Overload) (xs : List Arg) → ParamsGood o.params → fits (length xs) o ≡ true → unnamed_count xs ≤ 1 → score S o xs ≡ score_before S o xs
    -- "and either some overload matches or no argument is named": a call comes to what it came to
    pub call : (os : List Overload) (n : ℕ) (xs : List Arg) → ((v : Overload) → Memᴰ v (fitting (length xs) (usable os)) → ParamsGood v.params)
        → unnamed_count xs ≤ 1 → MatchedOrUnnamed os xs → resolve S os n xs ≡ resolve_before S os n xs
