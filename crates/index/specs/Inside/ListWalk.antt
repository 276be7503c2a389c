-- The cursor along the functions of a bucket, on the way to those of an owner and a name.
use Rattle.std.specs.Prelude.{None, Some, ℕ, ◌+◌, ◌%◌, eqb, get_or, Bool, ◌&&◌, List, ◌≡◌}
use Rattle.index.specs.Inside.Bucket.{key_bucket}
use Rattle.index.specs.Inside.Found.{Found, found_at, place_at, first_from, first_with, first_behind, FunctionAt}
use Rattle.index.specs.Inside.Index.{list_count, first_at, next_at}
use Rattle.index.specs.declared.list.ListCursor.{ListCursor}
use Rattle.index.specs.declared.index.Place.{Place}
use Rattle.ty.specs.Bytes.{id_at}

-- at the first function of the bucket of an owner and a name, in a table of n bytes with the index x
unfoldable pub list_start : ℕ → List ℕ → ℕ → ℕ → ListCursor
list_start n x owner name = record { owner = owner; name = name; here = place_at x (first_at n (key_bucket 4 owner name % list_count n)) }

-- the function at p has the owner and the name, by its bytes
unfoldable pub here_has_key : List ℕ → ListCursor → Place → Bool
here_has_key t c p = eqb (get_or t p.at 0) 4 && (eqb (id_at t (p.at + 1)) c.owner && eqb (id_at t (p.at + 3)) c.name)

-- elsewhere, with the same owner and name
abbrev pub list_at : ListCursor → Found → ListCursor
list_at c f = record { owner = c.owner; name = c.name; here = f }

-- at the next function of the bucket, behind the function at p
unfoldable pub list_step : ℕ → List ℕ → ListCursor → Place → ListCursor
list_step n x c p = list_at c (place_at x (next_at n p.at))

-- at the first function with the owner and the name, from here on
unfoldable pub list_followed : List ℕ → ListCursor → ListCursor
list_followed t c = list_at c (first_from t 4 c.owner c.name c.here)

-- at the first function with an owner and a name
unfoldable pub list_first : List ℕ → ℕ → ℕ → ListCursor
list_first t owner name = record { owner = owner; name = name; here = found_at (first_with t 4 owner name) }

-- a function with the owner and the name is here
pub record AtListed (t : List ℕ) (c : ListCursor) : Type 0 where
  pub place : Place
  pub here : c.here ≡ Some place
  pub function : FunctionAt t place
  pub owner : c.owner ≡ id_at t (place.at + 1)
  pub name : c.name ≡ id_at t (place.at + 3)

-- at the first function with the owner and the name behind the one here; at the end it stays
abbrev pub list_behind : List ℕ → ListCursor → Found → ListCursor
list_behind t c None = c
list_behind t c (Some p) = list_at c (found_at (first_behind t 4 c.owner c.name p.at))

unfoldable pub list_next : List ℕ → ListCursor → ListCursor
list_next t c = list_behind t c c.here
