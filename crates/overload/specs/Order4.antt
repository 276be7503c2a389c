-- What order 4 claims, for every overload and all arguments. Document 02: "From now on the unnamed arguments take, in turn, the parameters that no argument
-- names, each parameter once. Scoring and the check of a single unmatched overload, in argument order, both use this".
use Rattle.std.specs.Prelude.{ℕ, suc, ◌-◌, true, length, take, map, replicate, ◌↔◌, ◌≡◌}
use mathlib.Core.List.{List, [], ◌∷◌, ◌++◌, Memᴰ}
use Rattle.std.proofs.Math.Option.{Option, none, some}
use Rattle.overload.specs.Reports.{unknowns, mismatches}
use Rattle.overload.specs.Resolve.{resolve}
use Rattle.scoring.specs.Arg.{Arg}
use Rattle.scoring.specs.Arity.{last_vararg, usable, fits, fitting}
use Rattle.scoring.specs.Score.{score}
use Rattle.scoring.specs.WithParams.{param_named, free_params, WithParam, with_params, NamesDiffer}
use Rattle.symbol.specs.Symbols.{Param, Overload, Symbols}

-- how many arguments have no name
unfoldable pub count_by_name : Option ℕ → ℕ → ℕ
count_by_name none n = suc n
count_by_name (some id) n = n

unfoldable pub unnamed_count : List Arg → ℕ
unnamed_count [] = 0
unnamed_count (a ∷ xs) = count_by_name a.name (unnamed_count xs)

-- what the unnamed arguments get, in argument order
unfoldable pub onto_unnamed : Option ℕ → Option Param → List (Option Param) → List (Option Param)
onto_unnamed none o os = o ∷ os
onto_unnamed (some id) o os = os

unfoldable pub unnamed_params : List WithParam → List (Option Param)
unnamed_params [] = []
unnamed_params (z ∷ zs) = onto_unnamed z.arg.name z.param (unnamed_params zs)

-- the parameters that are there
unfoldable pub given_params : List (Option Param) → List Param
given_params [] = []
given_params (none ∷ os) = given_params os
given_params (some p ∷ os) = p ∷ given_params os

-- the first k of some parameters, and none behind them where there are fewer
abbrev pub first_or_none : ℕ → List Param → List (Option Param)
first_or_none k fs = map some (take k fs) ++ replicate (k - length fs) none

-- why an argument gets none of the parameters ps
pub data NoParameter (ps : List Param) (a : Arg) : Type 0 where
  unknown_name : (id : ℕ) → a.name ≡ some id → param_named id ps ≡ none → NoParameter ps a
  left_over : a.name ≡ none → last_vararg ps ≡ true → NoParameter ps a

module _ (S : Symbols) where
  -- an overload matches these arguments
  abbrev pub Matches : Overload → List Arg → Type 0
  Matches o xs = (s : ℕ) × (score S o xs ≡ some s)

  -- of an overload and a call's arguments
  pub record OwnParameter (o : Overload) (xs : List Arg) : Type 0 where
    -- "in argument order"
    pub order : map (λ (z : WithParam). z.arg) (with_params o.params xs) ≡ xs
    -- "a named argument is compared with the parameter of its name"
    pub named : (z : WithParam) → Memᴰ z (with_params o.params xs) → (id : ℕ) → z.arg.name ≡ some id → z.param ≡ param_named id o.params
    -- "the unnamed arguments take, in turn, the parameters that no argument names"
    pub turns : unnamed_params (with_params o.params xs) ≡ first_or_none (unnamed_count xs) (free_params o.params xs)
    -- "each parameter once"
    pub once : NamesDiffer o.params → NamesDiffer (given_params (unnamed_params (with_params o.params xs)))
    -- "An unnamed argument left without a parameter, as only a vararg allows"
    pub only_vararg : NamesDiffer o.params → fits (length xs) o ≡ true → (z : WithParam) → Memᴰ z (with_params o.params xs)
        → z.param ≡ none → NoParameter o.params z.arg
    -- a match is what draws neither an unknown name nor a mismatch
    pub exactly : Matches o xs ↔ ((unknowns o.params 1 xs ≡ []) × (mismatches S 1 (with_params o.params xs) ≡ []))

  -- of the call of a list of functions at node n
  pub record OneFits (os : List Overload) (n : ℕ) (xs : List Arg) : Type 0 where
    -- "where just one overload fits, a call without a match then always bears a diagnostic: show it",
    pub bears : (v : Overload) → fitting (length xs) (usable os) ≡ v ∷ [] → score S v xs ≡ none → (resolve S os n xs).diags ≡ [] → ⊥
    -- and one with a match bears none
    pub silent_if : (v : Overload) → fitting (length xs) (usable os) ≡ v ∷ [] → Matches v xs → (resolve S os n xs).diags ≡ []
