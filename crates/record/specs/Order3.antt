-- What order 3 claims, for every table. Document 02: "keep the number of names as a running value from record to record, shown at each record to equal the
-- number of name records before it .. An id that only a later name record would define is undefined".
use Rattle.std.specs.Prelude.{ℕ, zero, suc, ◌+◌, ◌≤◌, ◌<◌, eqb, false, true, ◌≡◌, List, [], length, get_or, take, drop}
use Rattle.record.specs.Layout.{is_malformed, ids_used, record_kind, record_size}
use Rattle.record.specs.Table.{Record, first_record, records_of, name_count, before}
use Rattle.record.specs.TableRefused.{occurs, kind_before, record_fault, table_fault}
use Rattle.record.specs.declared.walk.TableWalk.{TableWalk}
use Rattle.ty.specs.Choose.{choose}
use Rattle.ty.specs.Name.{id_defined}

-- record number i of a table, from 0 on
abbrev pub nth_record : List ℕ → ℕ → Record
nth_record t i = get_or (records_of t) i []

-- "the number of name records before it"
abbrev pub names_before : List ℕ → ℕ → ℕ
names_before t i = name_count (take i (records_of t))

-- the running value: a walk behind the record where it stands, one name more if that is a name
abbrev pub behind_record : List ℕ → TableWalk → TableWalk
behind_record t w =
    record {
      here = record { at = w.here.at + record_size (drop w.here.at t); index = suc w.here.index };
      names = w.names + choose (eqb (record_kind (first_record (drop w.here.at t))) 1) 1 0;
    }

-- the walk behind i records, from the table's first on
unfoldable pub walked : List ℕ → ℕ → TableWalk
walked t zero = record { here = record { at = 0; index = 0 }; names = 0 }
walked t (suc i) = behind_record t (walked t i)

-- the check of a table reaches a record: the table is not too long, and no record before this one draws a number
pub record CheckReaches (t : List ℕ) (i : ℕ) : Type 0 where
  pub short : length t ≤ 60000
  pub some : i < length (records_of t)
  pub clean : (k : ℕ) → k < i → record_fault (before k (records_of t)) (nth_record t k) (drop k (records_of t)) ≡ 0

-- an id that the names before record i do not define, and all the table's names do
pub record OnlyLater (t : List ℕ) (i id : ℕ) : Type 0 where
  pub not_before : id_defined id (names_before t i) ≡ false
  pub in_all : id_defined id (name_count (records_of t)) ≡ true

-- the claims
pub record NamesShown (t : List ℕ) : Type 0 where
  -- "shown at each record to equal the number of name records before it", and at the table's end that of all; law `names_walked` (proofs Order3) says that the
  -- walks of the check are these
  pub value : (i : ℕ) → i ≤ length (records_of t) → (walked t i).names ≡ names_before t i
  -- "An id check, in table or question, gets the id and that value and no table": it is `id_defined` (ty), and a question's check gets the value at the end
  pub all : (walked t (length (records_of t))).names ≡ name_count (records_of t)
  -- "An id that only a later name record would define is undefined": by the running value,
  pub undefined : (i id : ℕ) → i ≤ length (records_of t) → OnlyLater t i id → id_defined id (walked t i).names ≡ false
  -- and the table draws number 4 by it where its check reaches the record, which is not malformed and whose kind does not fall
  pub late : (i id : ℕ) → CheckReaches t i → is_malformed (nth_record t i) ≡ false → kind_before (before i (records_of t)) ≤ record_kind (nth_record t i)
      → occurs id (ids_used (nth_record t i)) ≡ true → OnlyLater t i id → table_fault t ≡ 4
