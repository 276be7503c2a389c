-- The cursor along the functions of an owner and a name.
use Rattle.std.specs.Prelude.{None, Some, ℕ, List, ◌≡◌}
use Rattle.index.specs.Inside.Found.{Found}
use Rattle.index.specs.Inside.ListWalk.{AtListed}
use Rattle.index.specs.declared.index.Place.{Place}
use Rattle.symbol.specs.Inside.Places.{first_place, function_places, places_behind}
use Rattle.symbol.specs.declared.lookups.Functions.{Functions}

-- the cursor of an owner and a name at a place that was found
abbrev pub cursor_at : ℕ → ℕ → Found → Functions
cursor_at owner name f = record { list = record { owner = owner; name = name; here = f } }

-- at the first function of an owner and a name
unfoldable pub functions_first : List ℕ → ℕ → ℕ → Functions
functions_first t owner name = cursor_at owner name (first_place (function_places t owner name))

-- what stands at the cursor
unfoldable pub found_here : Functions → Found
found_here c = c.list.here

-- at the function behind one; at the end it stays
abbrev pub cursor_behind : List ℕ → Functions → Found → Functions
cursor_behind t c None = c
cursor_behind t c (Some p) = cursor_at c.list.owner c.list.name (first_place (places_behind t p))

-- at the next function
unfoldable pub functions_next : List ℕ → Functions → Functions
functions_next t c = cursor_behind t c c.list.here

-- the cursor stands at a function with its owner and name
abbrev pub AtFunction : List ℕ → Functions → Type 0
AtFunction t c = AtListed t c.list

-- it does, or is at the list's end
pub record Along (t : List ℕ) (c : Functions) : Type 0 where
  pub stands : (p : Place) → c.list.here ≡ Some p → AtFunction t c
