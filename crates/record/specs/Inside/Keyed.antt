-- The records of a kind with a key, as the code finds them from their heads; and how many bytes a type has. Law `same_keyed` (symbol, proofs LaidLookups)
-- ties them to `keyed`.
use Rattle.std.specs.Prelude.{ℕ, Bool, ◌&&◌, ◌||◌, List, [], ◌∷◌, ltb, eqb, Result, Ok, Err}
use Rattle.ty.specs.Choose.{choose}
use Rattle.ty.specs.Read.{read_type, longest_type}
use Rattle.ty.specs.declared.read.TypeFault.{TypeFault}
use Rattle.ty.specs.declared.read.TypeRead.{TypeRead}
use Rattle.record.specs.Inside.Front.{Front}
use Rattle.record.specs.Inside.Front.{front_of}
use Rattle.record.specs.Table.{Record}

-- a record of kind k with the key a, b; of kinds 2 and 3 the key is a alone
abbrev pub is_of : ℕ → ℕ → ℕ → Front → Bool
is_of k a b h = eqb h.kind k && (eqb h.one a && (ltb k 4 || eqb h.two b))

-- the records of kind k with that key, in table order
unfoldable pub records_with : ℕ → ℕ → ℕ → List Record → List Record
records_with k a b [] = []
records_with k a b (r ∷ rs) = choose (is_of k a b (front_of r)) (r ∷ records_with k a b rs) (records_with k a b rs)

-- how many bytes the type at the front of s has
abbrev pub whole_length : Result TypeRead TypeFault → ℕ
whole_length (Ok found) = found.len
whole_length (Err fault) = 0

unfoldable pub type_length : List ℕ → ℕ
type_length s = whole_length (read_type s longest_type)
