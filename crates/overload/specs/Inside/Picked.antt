-- Which functions of a list a call looks at, by their places in the table.
use Rattle.std.specs.Prelude.{ℕ, Bool, ◌&&◌, List, [], ◌∷◌, ◌++◌}
use Rattle.ty.specs.Choose.{choose}
use Rattle.scoring.specs.Arity.{fits}
use Rattle.symbol.specs.Inside.LookupAnswer.{overload_at}
use Rattle.symbol.specs.Inside.Places.{function_places}
use Rattle.index.specs.declared.index.Place.{Place}

-- a place, where its overload is usable (builtins drop out where `some_own` says so) and fits n arguments
unfoldable pub taken : List ℕ → Bool → ℕ → Place → List Place
taken t some_own n p = choose (some_own && (overload_at t p).builtin) [] (choose (fits n (overload_at t p)) (p ∷ []) [])

-- those of a list that are
unfoldable pub picked : List ℕ → Bool → ℕ → List Place → List Place
picked t some_own n [] = []
picked t some_own n (p ∷ ps) = taken t some_own n p ++ picked t some_own n ps

-- the functions of an owner and a name that are
abbrev pub picked_in : List ℕ → Bool → ℕ → ℕ → ℕ → List Place
picked_in t some_own n owner id = picked t some_own n (function_places t owner id)
