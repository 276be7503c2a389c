-- What the check of a table's names comes to: they stand first, and the check of the other records goes on behind them.
use Rattle.std.specs.Prelude.{ℕ, ◌≤◌, ◌≡◌, List, get_or, drop}
use Rattle.index.specs.Inside.Entered.{Entered, Lasts}
use Rattle.index.specs.Inside.SearchTree.{Tree}
use Rattle.record.specs.Inside.HeadFault.{last_kind, found_from}
use Rattle.record.specs.Inside.NamesBefore.{WalkAt}
use Rattle.record.specs.Table.{records_of, before}
use Rattle.record.specs.TableRefused.{table_fault}
use Rattle.record.specs.declared.walk.TableWalk.{TableWalk}
use Rattle.symbol.specs.Inside.IndexMade.{index_made, Making}
use Rattle.symbol.specs.Inside.LateMade.{late_from, late_made}
use Rattle.symbol.specs.TableFault.{table_fault_number}
use Rattle.symbol.specs.declared.checks.TableFault.{TableFault}

-- the table's number is that of the records from the walk on, and the index x has those before it
pub record RecordsPassed (t x : List ℕ) (w : TableWalk) : Type 0 where
  pub walk : WalkAt t w
  pub fault : table_fault t ≡ found_from (before w.here.index (records_of t)) (records_of (drop w.here.at t))
  pub entered : Entered t x w.here.at
  pub lasts : Lasts t x w.here.at
  pub tree : Tree t x w.here.at

-- they are names; what comes of the index, which was x₀, and of the entries for the classes ahead is what comes of them from here on
pub record NamesPassed (t x₀ x : List ℕ) (w : TableWalk) : Type 0 where
  pub passed : RecordsPassed t x w
  pub kind : last_kind (before w.here.index (records_of t)) ≤ 1
  pub made : Making t x₀ x w.here
  pub late : (late : List ℕ) → late_from t w.here.at (before w.here.index (records_of t)) (records_of (drop w.here.at t)) late ≡ late_made t late

-- the next record, where there is one, is of another kind
pub record NamesDone (t x₀ x : List ℕ) (w : TableWalk) : Type 0 where
  pub names : NamesPassed t x₀ x w
  pub other : get_or t w.here.at 0 ≡ 1 → ⊥

-- a name draws a number: the table's
pub record NameRefused (t x₀ x : List ℕ) (f : TableFault) : Type 0 where
  pub number : table_fault_number f ≡ table_fault t
  pub made : x ≡ index_made t x₀
  pub late : (late : List ℕ) → late ≡ late_made t late
