-- What order 4 claims of the functions of an accepted table. No two parameters of one of them have one name, so what overload's `Order4` claims of an overload
-- holds here without that condition.
use Rattle.std.specs.Prelude.{ℕ, ◌≡◌}
use mathlib.Core.List.{List, Memᴰ}
use Rattle.std.proofs.Math.Option.{none}
use Rattle.overload.specs.Order4.{unnamed_params, given_params, NoParameter, OwnParameter, OneFits}
use Rattle.scoring.specs.Arg.{Arg}
use Rattle.scoring.specs.WithParams.{WithParam, with_params, NamesDiffer}
use Rattle.symbol.specs.Lookup.{symbols_of}
use Rattle.symbol.specs.Symbols.{Overload}
use Rattle.typing.specs.CleanCall.{candidates}

module _ (t : List ℕ) (owner id : ℕ) where
  -- the functions of an owner and a name
  abbrev pub functions : List Overload
  functions = (symbols_of t).functions_of owner id

  -- called with the arguments xs at node n
  pub record Order4Accepted (n : ℕ) (xs : List Arg) : Type 0 where
    pub each : (v : Overload) → Memᴰ v functions → OwnParameter (symbols_of t) v xs
    pub call : OneFits (symbols_of t) functions n xs
    -- "each parameter once"
    pub once : (v : Overload) → Memᴰ v functions → NamesDiffer (given_params (unnamed_params (with_params v.params xs)))
    -- "An unnamed argument left without a parameter, as only a vararg allows"
    pub only_vararg : (v : Overload) → Memᴰ v (candidates functions xs) → (z : WithParam) → Memᴰ z (with_params v.params xs) → z.param ≡ none
        → NoParameter v.params z.arg
