-- The table's cursor.
use Rattle.std.specs.Prelude.{ℕ, ◌+◌, ◌≤◌, ◌<◌, false, ◌≡◌, List, length, drop, eqb, Option, Result, Ok, Err}
use Rattle.ty.specs.declared.read.TypeFault.{TypeFault}
use Rattle.ty.specs.declared.read.TypeRead.{TypeRead}
use Rattle.record.specs.declared.front.Head.{Head}
use Rattle.record.specs.declared.walk.Cursor.{Cursor}
use Rattle.record.specs.declared.walk.Step.{Step}
use Rattle.record.specs.Inside.Front.{front_of, front_of_head, front_at}
use Rattle.record.specs.Inside.FrontRecord.{front_record}
use Rattle.record.specs.Table.{Record, records_of}
use Rattle.ty.specs.Choose.{choose}

-- what is read at the front of some bytes, and where the record ends
pub record HeadIs (s : List ℕ) (r : Option Head) : Type 0 where
  pub same : front_at s r ≡ front_of s
  pub low : 1 ≤ (front_of s).len
  pub high : (front_of s).len ≤ length s

-- a type that begins at byte n of s ends in s
abbrev pub EndsIn : ℕ → List ℕ → Result TypeRead TypeFault → Type 0
EndsIn n s (Ok found) = n + found.len ≤ length s
EndsIn n s (Err fault) = Unit

-- the cursor stands where record number `index` begins, or at the end
pub record CursorAt (t : List ℕ) (c : Cursor) : Type 0 where
  pub sits : records_of (drop c.at t) ≡ drop c.index (records_of t)
  pub behind : c.index ≤ c.at
  pub inside : c.at ≤ length t
  pub count : c.index ≤ length (records_of t)

-- a record begins at byte p, or the table ends there
pub record Sits (t : List ℕ) (p : ℕ) : Type 0 where
  pub index : ℕ
  pub at : CursorAt t (record { at = p; index = index })

-- a whole record begins at byte p
pub record WholeRecordAt (t : List ℕ) (p : ℕ) : Type 0 where
  pub sits : Sits t p
  pub some : p < length t
  pub whole : (front_of (drop p t)).malformed ≡ false

-- the byte behind the record that begins at byte p
abbrev pub behind : List ℕ → ℕ → ℕ
behind t p = p + (front_of (drop p t)).len

-- the record at the cursor
abbrev pub record_at : List ℕ → Cursor → Record
record_at t c = front_record (drop c.at t)

-- a step: the record's front, and the cursor behind it
pub record StepIs (t : List ℕ) (c : Cursor) (r : Step) : Type 0 where
  pub head : front_at (drop c.at t) r.head ≡ front_of (drop c.at t)
  pub own : front_at (drop c.at t) r.head ≡ front_of (record_at t c)
  pub next : r.next.at ≡ c.at + (front_of (drop c.at t)).len
  pub index : r.next.index ≡ c.index + 1
  pub low : c.at < r.next.at
  pub high : r.next.at ≤ length t

-- the record at the cursor has that front
pub record Stands (t : List ℕ) (c : Cursor) (h : Head) : Type 0 where
  pub at : CursorAt t c
  pub some : c.at < length t
  pub head : front_of_head h ≡ front_of (drop c.at t)

-- the cursor at the table's first record
abbrev pub start : Cursor
start = record { at = 0; index = 0 }

-- how many ways there are behind a record of a kind, and behind each record of tree b
unfoldable pub ways_of : ℕ → ℕ
ways_of kind = choose (eqb kind 1) 8 2
