-- What the check of one record is told, and its number in two parts.
use Rattle.std.specs.Prelude.{ℕ, ◌≤◌, ltb, eqb, Bool, not, false, ◌&&◌, ◌||◌, List, ◌≡◌, length, get_or, drop}
use Rattle.index.specs.Inside.Entered.{Entered}
use Rattle.index.specs.Inside.SearchKey.{name_bytes_at}
use Rattle.record.specs.Inside.Front.{front_of, name_front}
use Rattle.record.specs.Inside.NameHash.{hash_of}
use Rattle.record.specs.Inside.HeadFault.{last_kind, head_fault, first_interface_at, second_interface_at, id_missing, own_fault, key_fault}
use Rattle.record.specs.RecordKind.{record_kind_number}
use Rattle.record.specs.Table.{Record, records_of, before}
use Rattle.index.specs.Inside.SearchTree.{Tree}
use Rattle.record.specs.Inside.Walk.{CursorAt, Stands, record_at}
use Rattle.record.specs.Inside.NamesBefore.{WalkAt}
use Rattle.record.specs.declared.front.Head.{Head}
use Rattle.record.specs.declared.front.RecordKind.{RecordKind}
use Rattle.record.specs.declared.walk.Cursor.{Cursor}
use Rattle.record.specs.declared.walk.TableWalk.{TableWalk}
use Rattle.symbol.specs.declared.checks.Missing.{Missing}
use Rattle.ty.specs.Choose.{choose}
use Rattle.ty.specs.Name.{no_id}

-- The kind of the record at c falls below the kind before it exactly where it is less than k, and no name has a kind from k on.
pub record KindLimit (t : List ℕ) (c : Cursor) (k : RecordKind) : Type 0 where
  pub low : 2 ≤ record_kind_number k
  pub same : (front_of (record_at t c)).malformed ≡ false
      → ltb (front_of (record_at t c)).kind (record_kind_number k) ≡ ltb (front_of (record_at t c)).kind (last_kind (before c.index (records_of t)))

-- The whole record h stands where the walk w is, behind the names; its kind is not to be less than k.
pub record Asked (t : List ℕ) (w : TableWalk) (h : Head) (k : RecordKind) : Type 0 where
  pub stands : Stands t w.here h
  pub walk : WalkAt t w
  pub kind : KindLimit t w.here k

-- The index has the records before byte e.
pub record Planted (t x : List ℕ) (e : ℕ) : Type 0 where
  pub short : length t ≤ 60000
  pub entered : Entered t x e
  pub tree : Tree t x e

-- The whole record h stands at c, and the index has the records before it.
pub record Prepared (t x : List ℕ) (c : Cursor) (h : Head) : Type 0 where
  pub stands : Stands t c h
  pub planted : Planted t x c.at

-- A record of kind 1 stands at c, behind names that the index has.
pub record NameAsked (t x : List ℕ) (c : Cursor) : Type 0 where
  pub at : CursorAt t c
  pub byte : get_or t c.at 0 ≡ 1
  pub kind : last_kind (before c.index (records_of t)) ≤ 1
  pub planted : Planted t x c.at

-- The whole name stands at c, and h is its hash.
pub record NameEntryAsked (t x : List ℕ) (c : Cursor) (h : ℕ) : Type 0 where
  pub name : NameAsked t x c
  pub front : front_of (drop c.at t) ≡ name_front
  pub hash : h ≡ hash_of (name_bytes_at t c.at)

-- an id where no earlier record is its class, and 65,535 otherwise
abbrev pub missing_one : List Record → ℕ → ℕ
missing_one earlier id = choose (id_missing earlier id) id no_id

-- none is missing
abbrev pub none_missing : Missing
none_missing = record { superclass = no_id; first_interface = no_id; second_interface = no_id }

-- the superclass and the interfaces of a record, each where no earlier record is its class; of other kinds none
abbrev pub missing_of : List Record → Record → Missing
missing_of earlier r =
    choose (eqb (front_of r).kind 2)
    (record {
      superclass = missing_one earlier (front_of r).two;
      first_interface = missing_one earlier (first_interface_at r);
      second_interface = missing_one earlier (second_interface_at r);
    })
    none_missing

-- those of the record at c
abbrev pub missing_at : List ℕ → Cursor → Missing
missing_at t c = missing_of (before c.index (records_of t)) (record_at t c)

-- a class's superclass or one of its interfaces is missing
abbrev pub any_missing : Missing → Bool
any_missing m = not (eqb m.superclass no_id) || (not (eqb m.first_interface no_id) || not (eqb m.second_interface no_id))

-- an id has a class record at byte p or behind it, by the classes ahead
abbrev pub is_ahead : List ℕ → ℕ → ℕ → Bool
is_ahead late p id = not (eqb id no_id) && ltb p (get_or late id 0)

abbrev pub any_ahead : List ℕ → ℕ → Missing → Bool
any_ahead late p m = is_ahead late p m.superclass || (is_ahead late p m.first_interface || is_ahead late p m.second_interface)

-- the number of the record at c
abbrev pub fault_at : List ℕ → Cursor → ℕ
fault_at t c = head_fault (before c.index (records_of t)) (record_at t c) (records_of (drop c.at t))

-- the numbers of the record at c by itself, and beside the others
abbrev pub own_fault_at : List ℕ → Cursor → ℕ
own_fault_at t c = own_fault (before c.index (records_of t)) (record_at t c)

abbrev pub key_fault_at : List ℕ → Cursor → ℕ
key_fault_at t c = key_fault (before c.index (records_of t)) (record_at t c) (records_of (drop c.at t))
