-- The cursor down the tree of a key, and where the search for the key ends.
use Rattle.std.specs.Prelude.{None, Some, Result, Ok, Err, ℕ, zero, suc, ◌+◌, ◌-◌, ◌≤◌, ◌<◌, length, drop, Bool, true, List, ◌≡◌}
use Rattle.index.specs.Inside.Found.{Found, place_at}
use Rattle.index.specs.Inside.Index.{root_at, child_at}
use Rattle.index.specs.Inside.SearchKey.{tree_for, digits_for, digit_for, key_matches, KeyIn}
use Rattle.index.specs.declared.tree.Key.{Key}
use Rattle.index.specs.declared.index.Place.{Place}
use Rattle.index.specs.declared.tree.TreeCursor.{TreeCursor}
use Rattle.record.specs.Inside.FrontRecord.{front_record}
use Rattle.ty.specs.Choose.{choose}

-- at an entry of the index x, behind d records
abbrev pub tree_at : List ℕ → ℕ → ℕ → ℕ → TreeCursor
tree_at x a d h = record { entry = a; here = place_at x a; depth = d; digits = h }

-- at the root of tree b
unfoldable pub tree_start : List ℕ → ℕ → TreeCursor
tree_start x b = tree_at x (root_at b) 0 0

-- one record down from the record p here, as the key's next digit says
unfoldable pub tree_step : List ℕ → List ℕ → Key → TreeCursor → Place → TreeCursor
tree_step t x k c p = tree_at x (child_at (length t) p.at (digit_for t k c.depth)) (c.depth + 1) (digits_for t k c.depth)

-- what a step asks: the number for the digits is that of the record before it
pub record TreeStepAsked (t : List ℕ) (k : Key) (c : TreeCursor) : Type 0 where
  pub key : KeyIn t k
  pub digits : 0 < c.depth → c.digits ≡ digits_for t k (c.depth - 1)
  pub few : c.depth ≤ 60001

-- what is here: a record, or an empty entry
abbrev pub spot_of : ℕ → Found → Result Place ℕ
spot_of a None = Err a
spot_of a (Some p) = Ok p

abbrev pub spot_at : TreeCursor → Result Place ℕ
spot_at c = spot_of c.entry c.here

-- the search ends here: the entry is empty, or its record has the key
abbrev pub ends_at : List ℕ → Key → Found → Bool
ends_at t k None = true
ends_at t k (Some p) = key_matches t k (front_record (drop p.at t))

-- one record down, where one is here
abbrev pub tree_stepped : List ℕ → List ℕ → Key → TreeCursor → Found → TreeCursor
tree_stepped t x k c None = c
tree_stepped t x k c (Some p) = tree_step t x k c p

-- where a search ends that goes on from a cursor, by n steps at most
unfoldable pub search_from : ℕ → List ℕ → List ℕ → Key → TreeCursor → Result Place ℕ
search_from zero t x k c = spot_at c
search_from (suc n) t x k c = choose (ends_at t k c.here) (spot_at c) (search_from n t x k (tree_stepped t x k c c.here))

-- where the search for a key ends: a later record is behind each, so that there are fewer steps than bytes
unfoldable pub search_of : List ℕ → List ℕ → Key → Result Place ℕ
search_of t x k = search_from (suc (length t)) t x k (tree_start x (tree_for t k))
