-- The classes at a byte of the table or behind it: for each id the last class record that has it.
use Rattle.std.specs.Prelude.{ℕ, zero, suc, ◌+◌, ◌/◌, ◌≤◌, ◌<◌, Bool, true, false, ◌≡◌, List, [], ◌∷◌, length, get_or, set, drop, eqb}
use Rattle.ty.specs.Choose.{choose}
use Rattle.record.specs.Inside.Front.{front_of}
use Rattle.record.specs.Inside.HeadFault.{is_class}
use Rattle.record.specs.Table.{Record, records_of}
use Rattle.record.specs.Inside.Walk.{Sits}

-- a record, or another where there is none
unfoldable pub or_else : ℕ → ℕ → ℕ
or_else zero w = w
or_else (suc v) w = suc v

-- the last class record of an id among some, of which the first begins at byte p: by its first byte, counted from 1; 0 is none
unfoldable pub last_class : ℕ → ℕ → List Record → ℕ
last_class id p [] = 0
last_class id p (r ∷ rs) = or_else (last_class id (p + length r) rs) (choose (is_class id (front_of r)) (suc p) 0)

-- the last class record at byte e or behind it, for each id that has an entry
pub record Ahead (t late : List ℕ) (e : ℕ) : Type 0 where
  pub sits : Sits t e
  pub last : (id : ℕ) → id < length late → get_or late id 0 ≡ last_class id e (records_of (drop e t))

-- the record at byte p, of a kind and a first id, comes into the entries: a class replaces what its id has; an id with no entry is left out
unfoldable pub marked : ℕ → ℕ → ℕ → List ℕ → List ℕ
marked kind one p late = choose (eqb kind 2) (set late one (suc p)) late

-- some records come into the entries, one after the other, of which the first begins at byte p; and those at byte p or behind it
unfoldable pub all_marked : ℕ → List Record → List ℕ → List ℕ
all_marked p [] late = late
all_marked p (r ∷ rs) late = all_marked (p + length r) rs (marked (front_of r).kind (front_of r).one p late)

abbrev pub marked_from : List ℕ → ℕ → List ℕ → List ℕ
marked_from t p late = all_marked p (records_of (drop p t)) late

-- the entries that are enough: the defined ids are below 40 and the number of names, which have 26 bytes each
abbrev pub late_size : ℕ → ℕ
late_size n = 40 + n / 26

pub record LateRoom (t late : List ℕ) : Type 0 where
  pub long : late_size (length t) ≤ length late
  pub blank : (i : ℕ) → get_or late i 0 ≡ 0

-- the entries were made at byte p or before it, or they are blank
pub record AheadOf (t late : List ℕ) (p : ℕ) : Type 0 where
  pub from : ℕ
  pub low : from ≤ p
  pub ahead : Ahead t late from

abbrev pub Looked : List ℕ → List ℕ → ℕ → Bool → Type 0
Looked t late p true = AheadOf t late p
Looked t late p false = (i : ℕ) → get_or late i 0 ≡ 0
