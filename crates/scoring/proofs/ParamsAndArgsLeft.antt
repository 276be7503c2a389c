-- The parameters of a function that was read, and a call's arguments, from a place on.
use Prim.Native.Nat.{ℕ, suc, ◌+◌, ◌≤◌, ◌<◌}
use lib.ListN.{length, get_or, drop, drop_of_length-le}
use mathlib.Core.List.{List, [], ◌∷◌}
use mathlib.Core.Path.{◌≡◌, refl, ap}
use Rattle.std.proofs.lemmas.List.{drop_more}
use Rattle.scoring.specs.Inside.Args.{args_in}
use Rattle.scoring.specs.declared.args.Arg.{Arg}
use Rattle.area.specs.Inside.Slot.{type_at}
use Rattle.symbol.specs.Inside.LookupAnswer.{optional, param_seen, params_in}
use Rattle.symbol.specs.declared.functions.Param.{Param as Read}
use Rattle.ty.specs.Bytes.{Ty}

module _ (t : List ℕ) (ps : List Read) (i : ℕ) where
  pub params_next : (d : Read) → i < length ps → params_in t (drop i ps) ≡ param_seen t (get_or ps i d) ∷ params_in t (drop (i + 1) ps)
  params_next d h = ap (params_in t) (drop_more ps i d h)

  pub params_none : length ps ≤ i → params_in t (drop i ps) ≡ []
  params_none h = ap (params_in t) (drop_of_length-le ps h)

pub params_length : (t : List ℕ) (ps : List Read) → length (params_in t ps) ≡ length ps
params_length t [] = refl
params_length t (p ∷ ps) = ap suc (params_length t ps)

module _ (ts : List Ty) (xs : List Arg) (i : ℕ) where
  pub args_next : (d : Arg) → i < length xs
      → args_in ts (drop i xs)
      ≡ record { name = optional (get_or xs i d).name; ty = type_at ts (get_or xs i d).node; node = (get_or xs i d).node } ∷ args_in ts (drop (i + 1) xs)
  unfolding args_in
  args_next d h = ap (args_in ts) (drop_more xs i d h)

  pub args_none : length xs ≤ i → args_in ts (drop i xs) ≡ []
  unfolding args_in
  args_none h = ap (args_in ts) (drop_of_length-le xs h)

pub args_length : (ts : List Ty) (xs : List Arg) → length (args_in ts xs) ≡ length xs
unfolding args_in
args_length ts [] = refl
args_length ts (x ∷ xs) = ap suc (args_length ts xs)
