-- Where the records of a table with a key stand, and what is read there.
use Rattle.std.specs.Prelude.{Option, None, Some, ℕ, ◌+◌, ◌-◌, ◌&&◌, ◌≡◌, List, [], ◌∷◌, eqb, length, drop}
use Rattle.ty.specs.Bytes.{same_bytes}
use Rattle.ty.specs.Choose.{choose}
use Rattle.record.specs.Layout.{record_kind, record_size}
use Rattle.record.specs.Table.{Record, first_record, records_of, key_of}
use Rattle.index.specs.Inside.Found.{FunctionAt}
use Rattle.index.specs.declared.index.Place.{Place}
use Rattle.index.specs.Inside.Found.{Found}
use Rattle.ty.specs.declared.Part.{Part}

-- the places of the records of a kind with a key, among some of which the first begins at byte p, in table order
unfoldable pub places_in : ℕ → List ℕ → ℕ → List Record → List Place
places_in kind key p [] = []
places_in kind key p (r ∷ rs) =
    choose (eqb (record_kind r) kind && same_bytes (key_of r) key) (record { at = p } ∷ places_in kind key (p + length r) rs)
    (places_in kind key (p + length r) rs)

-- those at byte p of a table or behind it
abbrev pub places_from : List ℕ → ℕ → List ℕ → ℕ → List Place
places_from t kind key p = places_in kind key p (records_of (drop p t))

-- the first of some places
unfoldable pub first_place : List Place → Found
first_place [] = None
first_place (p ∷ ps) = Some p

-- ---- functions

-- the functions of an owner and a name
unfoldable pub function_places : List ℕ → ℕ → ℕ → List Place
function_places t owner name = places_from t 4 (owner ∷ name ∷ []) 0

-- the functions behind that at a place with its owner and name
unfoldable pub places_behind : List ℕ → Place → List Place
places_behind t p = places_from t 4 (key_of (first_record (drop p.at t))) (p.at + record_size (drop p.at t))

-- a search among the places `all` finds nothing, or the first, and the others stand behind it
pub record FirstPlaceIs (t : List ℕ) (all : List Place) (p : Place) : Type 0 where
  pub first : all ≡ p ∷ places_behind t p
  pub here : FunctionAt t p

abbrev pub PlaceFound : List ℕ → List Place → Found → Type 0
PlaceFound t all None = all ≡ []
PlaceFound t all (Some p) = FirstPlaceIs t all p

-- ---- fields

-- the type of a field record, behind its kind, owner and name
abbrev pub field_part_at : List ℕ → Found → Option Part
field_part_at t None = None
field_part_at t (Some p) = Some (record { start = p.at + 5; len = record_size (drop p.at t) - 5 })

-- the type of the field of an owner and a name
unfoldable pub field_part : List ℕ → ℕ → ℕ → Option Part
field_part t owner name = field_part_at t (first_place (places_from t 5 (owner ∷ name ∷ []) 0))
