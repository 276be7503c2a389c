-- A table that draws no number, with its index, as the lookups ask it; and what the check of a table asks of a lent index.
use Rattle.std.specs.Prelude.{ℕ, ◌≤◌, ◌<◌, ◌≡◌, List, length, get_or, drop}
use Rattle.record.specs.Inside.Front.{front_of}
use Rattle.record.specs.Inside.FrontRecord.{front_record}
use Rattle.record.specs.TableRefused.{table_fault}
use Rattle.record.specs.Table.{records_of, name_count}
use Rattle.index.specs.Inside.Index.{list_count, list_in, first_at, next_at, next_from, index_size}
use Rattle.index.specs.Inside.SearchTree.{Tree}
use Rattle.record.specs.Inside.Walk.{Sits, behind}

-- the index of a table
pub record Indexed (t x : List ℕ) : Type 0 where
  pub names : get_or x 0 0 ≡ name_count (records_of t)
  pub first : (b : ℕ) → b < list_count (length t) → get_or x (first_at (length t) b) 0 ≡ next_from t b 0
  pub next : (p : ℕ) → Sits t p → p < length t → (front_of (drop p t)).kind ≡ 4
      → get_or x (next_at (length t) p) 0 ≡ next_from t (list_in (length t) (front_record (drop p t))) (behind t p)
  pub tree : Tree t x (length t)

-- what the lookups ask
pub record IndexedTable (t x : List ℕ) : Type 0 where
  pub clean : table_fault t ≡ 0
  pub indexed : Indexed t x

-- what the check asks of a lent index: it is long enough for the table, and all zero
pub record IndexRoom (t x : List ℕ) : Type 0 where
  pub long : length t ≤ 60000 → index_size (length t) ≤ length x
  pub blank : (i : ℕ) → get_or x i 0 ≡ 0
