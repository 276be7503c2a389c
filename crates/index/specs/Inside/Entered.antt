-- The lists of functions before a byte of the table: what the index holds of them while the table is checked.
use Rattle.std.specs.Prelude.{None, Some, ℕ, suc, ◌≤◌, ◌<◌, ◌≡◌, false, List, length, get_or, set, drop, leb}
use Rattle.index.specs.Inside.Found.{Found, place_at}
use Rattle.ty.specs.Choose.{choose}
use Rattle.record.specs.Inside.Front.{front_of}
use Rattle.record.specs.Inside.FrontRecord.{front_record}
use Rattle.index.specs.Inside.Index.{list_count, list_in, first_at, last_at, next_at, next_from, index_size}
use Rattle.record.specs.Inside.Walk.{Sits, behind}

-- a record that begins before byte e, or none
unfoldable pub clipped : ℕ → ℕ → ℕ
clipped e v = choose (leb v e) v 0

-- the entries lead along the functions before byte e; the records there are whole
pub record Entered (t x : List ℕ) (e : ℕ) : Type 0 where
  pub end : Sits t e
  pub first : (b : ℕ) → b < list_count (length t) → get_or x (first_at (length t) b) 0 ≡ clipped e (next_from t b 0)
  pub next : (p : ℕ) → Sits t p → p < e → (front_of (drop p t)).kind ≡ 4
      → get_or x (next_at (length t) p) 0 ≡ clipped e (next_from t (list_in (length t) (front_record (drop p t))) (behind t p))
  pub whole : (p : ℕ) → Sits t p → p < e → (front_of (drop p t)).malformed ≡ false

-- the entry of the last function of each bucket before byte e; what is behind the entries of the records before e is empty
pub record Lasts (t x : List ℕ) (e : ℕ) : Type 0 where
  pub none : (b : ℕ) → b < list_count (length t) → get_or x (last_at (length t) b) 0 ≡ 0 → clipped e (next_from t b 0) ≡ 0
  pub sits : (b q : ℕ) → b < list_count (length t) → get_or x (last_at (length t) b) 0 ≡ suc q → Sits t q
  pub here : (b q : ℕ) → b < list_count (length t) → get_or x (last_at (length t) b) 0 ≡ suc q
      → (q < e) × (list_in (length t) (front_record (drop q t)) ≡ b) × (clipped e (next_from t b (behind t q)) ≡ 0)
  pub blank : (j : ℕ) → next_at (length t) e ≤ j → get_or x j 0 ≡ 0
  pub long : index_size (length t) ≤ length x

-- a function at byte p comes into bucket b: behind the bucket's last function, or as its first
abbrev pub link_at : ℕ → ℕ → Found → ℕ
link_at n b None = first_at n b
link_at n b (Some last) = next_at n last.at

unfoldable pub entered : ℕ → ℕ → ℕ → List ℕ → List ℕ
entered n b p x = set (set x (link_at n b (place_at x (last_at n b))) (suc p)) (last_at n b) (suc p)

-- what it asks: the index is long enough, and the bucket's last function begins in the table
pub record EntryAsked (x : List ℕ) (n b p : ℕ) : Type 0 where
  pub long : index_size n ≤ length x
  pub short : n ≤ 60000
  pub bucket : b < list_count n
  pub place : p < n
  pub last : get_or x (last_at n b) 0 ≤ n
