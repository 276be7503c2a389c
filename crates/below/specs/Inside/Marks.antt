-- Marks: each id has a mask, of which bit j says that the id is above class j.
use Rattle.std.specs.Prelude.{ℕ, zero, suc, ◌≡◌, Bool, false, not, ◌&&◌, ◌||◌, List, length, get_or, eqb, ltb}
use Rattle.std.specs.Int.{bit_at}
use Rattle.below.specs.Below.{is_below}
use Rattle.symbol.specs.Symbols.{Symbols}
use Rattle.ty.specs.Choose.{choose}
use Rattle.ty.specs.Name.{no_id}

-- So many ids are enough: 40 built-in names, and at most 2,307 names of 26 bytes in a table of 60,000 bytes.
abbrev pub id_count : ℕ
id_count = 2347

-- a set of ids
abbrev pub IdSet : Type 0
IdSet = ℕ → Bool

unfoldable pub no_ids : IdSet
no_ids b = false

-- p too, if it is an id
unfoldable pub with_id : IdSet → ℕ → IdSet
with_id m p b = m b || (not (eqb p no_id) && eqb p b)

-- bit j of a mask
unfoldable pub has_bit : ℕ → ℕ → Bool
has_bit mask j = eqb (bit_at mask j) 1

-- the ids whose mask has bit j
unfoldable pub has_mark : List ℕ → ℕ → IdSet
has_mark m j b = has_bit (get_or m b 0) j

-- p too, if it is an id and a test holds
abbrev pub with_id_if : Bool → IdSet → ℕ → IdSet
with_id_if v m p = choose v (with_id m p) m

module _ (S : Symbols) where
  -- the parents of class a too
  unfoldable pub with_parents : IdSet → ℕ → IdSet
  with_parents m a = with_id (with_id (with_id m (S.super_of a)) (S.first_interface_of a)) (S.second_interface_of a)

  -- the parents of class a too, if a test holds
  abbrev pub with_parents_if : Bool → IdSet → ℕ → IdSet
  with_parents_if v m a = choose v (with_parents m a) m

  -- the turn of class record i, where `class` tells the class of each: where that class is in the set, its parents too
  abbrev pub turn : (ℕ → ℕ) → ℕ → IdSet → IdSet
  turn class i m = with_parents_if (m (class i)) m (class i)

  -- the sweep over the class records before record i, from the last to the first
  unfoldable pub swept : (ℕ → ℕ) → ℕ → IdSet → IdSet
  swept class zero m = m
  swept class (suc i) m = swept class i (turn class i m)

-- the marks of no class
pub record Unmarked (m : List ℕ) : Type 0 where
  pub long : length m ≡ id_count
  pub zero_masks : (b : ℕ) → get_or m b 0 ≡ 0

-- the marks are those of some classes: bit j says what is above class j, and no further bit is set
pub record MarksOf (S : Symbols) (classes m : List ℕ) : Type 0 where
  pub say : (j b : ℕ) → has_mark m j b ≡ (ltb j (length classes) && is_below S (get_or classes j 0) b)
