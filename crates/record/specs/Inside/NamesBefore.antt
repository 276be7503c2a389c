-- The number of names that the check of a table carries from record to record. Document 02, order 3: "keep the number of names as a running value from record
-- to record, shown at each record to equal the number of name records before it".
use Rattle.std.specs.Prelude.{ℕ, suc, ◌+◌, ◌≤◌, ◌<◌, ◌≡◌, List, length, get_or, take, drop}
use Rattle.record.specs.Inside.Front.{front_of, name_front}
use Rattle.record.specs.Inside.Walk.{start, CursorAt, StepIs}
use Rattle.record.specs.Table.{records_of, name_count}
use Rattle.record.specs.declared.walk.Cursor.{Cursor}
use Rattle.record.specs.declared.walk.TableStep.{TableStep}
use Rattle.record.specs.declared.walk.TableWalk.{TableWalk}

-- the walk stands at a record of the table, or at its end, and its number is that of the name records before
pub record WalkAt (t : List ℕ) (w : TableWalk) : Type 0 where
  pub at : CursorAt t w.here
  pub names : w.names ≡ name_count (take w.here.index (records_of t))

-- it stands at a record, in a table that is not too long
pub record WalkOn (t : List ℕ) (w : TableWalk) : Type 0 where
  pub walk : WalkAt t w
  pub some : w.here.at < length t
  pub short : length t ≤ 60000

-- a step: the record's front, and the walk behind it
pub record TableStepIs (t : List ℕ) (w : TableWalk) (r : TableStep) : Type 0 where
  pub step : StepIs t w.here (record { head = r.head; next = r.next.here })
  pub next : WalkAt t r.next

-- the walk at the table's first record
abbrev pub walk_start : TableWalk
walk_start = record { here = start; names = 0 }

-- a name that is not malformed stands at the cursor
pub record NameHere (t : List ℕ) (c : Cursor) : Type 0 where
  pub byte : get_or t c.at 0 ≡ 1
  pub front : front_of (drop c.at t) ≡ name_front

-- the walk behind a name, which has 26 bytes
abbrev pub behind_name : TableWalk → TableWalk
behind_name w = record { here = record { at = w.here.at + 26; index = suc w.here.index }; names = suc w.names }
