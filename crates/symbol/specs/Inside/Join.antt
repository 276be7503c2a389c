-- What the check of a table does with a record in the index.
use Rattle.std.specs.Prelude.{Option, Some, None, ℕ, suc, ◌<◌, Bool, true, false, ◌≡◌, ◌≢◌, List, length, set, drop}
use Rattle.ty.specs.Name.{no_id}
use Rattle.index.specs.Inside.Entered.{EntryAsked, entered}
use Rattle.record.specs.Inside.Front.{front_of}
use Rattle.record.specs.Inside.HeadFault.{has_key}
use Rattle.record.specs.Table.{records_of, before}
use Rattle.index.specs.Inside.Index.{list_count, list_in}
use Rattle.index.specs.Inside.SearchKey.{key_at}
use Rattle.index.specs.Inside.Spot.{FreeIs}
use Rattle.record.specs.Inside.Walk.{Stands, record_at}
use Rattle.index.specs.Inside.Ahead.{AheadOf}
use Rattle.record.specs.declared.front.Head.{Head}
use Rattle.symbol.specs.Inside.Asked.{missing_at}
use Rattle.symbol.specs.declared.checks.Entry.{Entry}
use Rattle.symbol.specs.declared.checks.Entry.TheVariants as entry
use Rattle.symbol.specs.declared.checks.Missing.{Missing}
use Rattle.record.specs.declared.walk.Cursor.{Cursor}

-- an earlier record has its key
abbrev pub taken_of : Option Entry → Bool
taken_of None = true
taken_of (Some (entry.Tree a)) = false
taken_of (Some (entry.List b)) = false

-- the empty entry where a search for its key ends, or the bucket of its list
pub record EntryTreeIs (t x : List ℕ) (c : Cursor) (a : ℕ) : Type 0 where
  pub other : (front_of (drop c.at t)).kind ≡ 4 → ⊥
  pub free : FreeIs t x (key_at c (front_of (drop c.at t))) a

pub record EntryListIs (t : List ℕ) (c : Cursor) (b : ℕ) : Type 0 where
  pub function : (front_of (drop c.at t)).kind ≡ 4
  pub bucket : b ≡ list_in (length t) (record_at t c)
  pub low : b < list_count (length t)

abbrev pub PlaceIs : List ℕ → List ℕ → Cursor → Option Entry → Type 0
PlaceIs t x c None = Unit
PlaceIs t x c (Some (entry.Tree a)) = EntryTreeIs t x c a
PlaceIs t x c (Some (entry.List b)) = EntryListIs t c b

pub record EntryIs (t x : List ℕ) (c : Cursor) (e : Option Entry) : Type 0 where
  pub key : taken_of e ≡ has_key (record_at t c) (before c.index (records_of t))
  pub place : PlaceIs t x c e

-- an empty entry of a tree, or none
abbrev pub tree_entry : Option ℕ → Option Entry
tree_entry None = None
tree_entry (Some a) = Some (entry.Tree a)

abbrev pub NameEntryIs : List ℕ → List ℕ → Cursor → Option ℕ → Type 0
NameEntryIs t x c e = EntryIs t x c (tree_entry e)

-- what a missing class asks of the classes ahead
pub record AheadAsked (t late : List ℕ) (c : Cursor) (missing : ℕ) : Type 0 where
  pub ahead : missing ≢ no_id → AheadOf t late c.at
  pub low : missing ≢ no_id → missing < length late

-- what its number beside the others asks: which of its superclass and interfaces have no earlier record, and then the classes ahead
pub record KeyAsked (t late : List ℕ) (c : Cursor) (h : Head) (e : Option Entry) (missing : Missing) : Type 0 where
  pub stands : Stands t c h
  pub key : taken_of e ≡ has_key (record_at t c) (before c.index (records_of t))
  pub is : missing ≡ missing_at t c
  pub superclass : AheadAsked t late c missing.superclass
  pub first_interface : AheadAsked t late c missing.first_interface
  pub second_interface : AheadAsked t late c missing.second_interface

-- what comes of the index: the record at byte p stands in the empty entry, or behind the last function of its bucket
abbrev pub index_joined : ℕ → ℕ → Option Entry → List ℕ → List ℕ
index_joined n p None x = x
index_joined n p (Some (entry.Tree a)) x = set x a (suc p)
index_joined n p (Some (entry.List b)) x = entered n b p x

-- what that asks
pub record TreeAsked (x : List ℕ) (p a : ℕ) : Type 0 where
  pub inside : a < length x
  pub place : p < 60000

abbrev pub JoinAsked : List ℕ → ℕ → ℕ → Option Entry → Type 0
JoinAsked x n p None = Unit
JoinAsked x n p (Some (entry.Tree a)) = TreeAsked x p a
JoinAsked x n p (Some (entry.List b)) = EntryAsked x n b p
