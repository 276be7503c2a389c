-- Where the types of a question's nodes are kept while it is judged: a slot for each, of 256 bytes in the judge, seen as the list of the types that they hold.
-- Node n's type is in slot n. Document 01: at most 64 nodes ("Table and question"), a type in 256 bytes ("Answer").
use Rattle.std.specs.Prelude.{ℕ, ◌≤◌, ◌<◌, ◌≡◌, List, [], ◌∷◌, length, get_or}
use Rattle.ty.specs.Bytes.{Ty}

abbrev pub slot_size : ℕ
slot_size = 256

abbrev pub slot_count : ℕ
slot_count = 64

-- the type of node m
abbrev pub type_at : List Ty → ℕ → Ty
type_at slots m = get_or slots m []

-- node m has a slot, and its number is higher than its parent's
pub record Child (slots : List Ty) (node m : ℕ) : Type 0 where
  pub past : node < m
  pub inside : m < length slots

-- the slot of node m holds t
pub record Holds (slots : List Ty) (m : ℕ) (t : Ty) : Type 0 where
  pub is : type_at slots m ≡ t
  pub inside : m < length slots

-- slots ms hold ts, and none of them is before lo
unfoldable pub AllHold : List Ty → ℕ → List ℕ → List Ty → Type 0
AllHold slots lo [] [] = Unit {0}
AllHold slots lo [] (t ∷ ts) = ⊥
AllHold slots lo (m ∷ ms) [] = ⊥
AllHold slots lo (m ∷ ms) (t ∷ ts) = (lo ≤ m) × Holds slots m t × AllHold slots lo ms ts
