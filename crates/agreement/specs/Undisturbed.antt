-- A function f is added behind the list os of old ones, and a call with the arguments xs reads them. Document 02, order 7: "the new one is dropped as builtin,
-- or doesn't fit in number, or else it knows all named arguments, an old usable overload matches, and the new one doesn't match or scores less than the best."
use Rattle.std.specs.Prelude.{ℕ, ◌<◌, length, true, false, ◌⊎◌, ◌≡◌}
use mathlib.Core.List.{List, [], ◌∷◌, Memᴰ}
use Rattle.std.proofs.Math.Option.{none, some}
use Rattle.scoring.specs.Arg.{Arg}
use Rattle.scoring.specs.Arity.{any_own, fits}
use Rattle.scoring.specs.Score.{score}
use Rattle.symbol.specs.Symbols.{Overload, Symbols}
use Rattle.typing.specs.CleanCall.{AllKnown, candidates}

-- "dropped as builtin": beside a non-builtin of the old ones
abbrev pub Dropped : List Overload → Overload → Type 0
Dropped os f = (any_own os ≡ true) × (f.builtin ≡ true)

-- "doesn't fit in number"
abbrev pub Unfit : Overload → List Arg → Type 0
Unfit f xs = fits (length xs) f ≡ false

-- "an old usable overload matches": one that fits in number, too; it scores so many points
pub record OldMatch (S : Symbols) (os : List Overload) (xs : List Arg) (points : ℕ) : Type 0 where
  pub overload : Overload
  pub usable : Memᴰ overload (candidates os xs)
  pub scores : score S overload xs ≡ some points

-- "scores less than the best": less than some old match, which has no more points than the best
pub record ScoresLess (S : Symbols) (os : List Overload) (f : Overload) (xs : List Arg) : Type 0 where
  pub points : ℕ
  pub new : score S f xs ≡ some points
  pub old_points : ℕ
  pub old : OldMatch S os xs old_points
  pub less : points < old_points

-- "or else": the call stays with an old one
pub record StaysWithOld (S : Symbols) (os : List Overload) (f : Overload) (xs : List Arg) : Type 0 where
  -- "it knows all named arguments"
  pub known : AllKnown (f ∷ []) xs
  -- "an old usable overload matches"
  pub old : (points : ℕ) × OldMatch S os xs points
  -- "and the new one doesn't match or scores less than the best"
  pub less : (score S f xs ≡ none) ⊎ ScoresLess S os f xs

abbrev pub Undisturbed : Symbols → List Overload → Overload → List Arg → Type 0
Undisturbed S os f xs = Dropped os f ⊎ (Unfit f xs ⊎ StaysWithOld S os f xs)
