-- The search trees of the index: for each bucket one of its records that are no functions. A search begins at the tree's root; behind each record that it meets
-- it goes on at one of that record's entries, as the key's next digit says.
use Rattle.std.specs.Prelude.{ℕ, zero, suc, ◌*◌, ◌-◌, ◌<◌, ◌≡◌, List, length, get_or, drop}
use Rattle.index.specs.Inside.Bucket.{digit_of}
use Rattle.record.specs.Inside.Front.{front_of}
use Rattle.record.specs.Inside.FrontRecord.{front_record}
use Rattle.index.specs.Inside.Index.{bucket_count, tree_in, root_at, child_at, ways_in}
use Rattle.record.specs.Inside.Walk.{ways_of, WholeRecordAt}

-- the entry where a search in tree b with the digits f stands behind d records
unfoldable pub place_of : List ℕ → ℕ → ℕ → (ℕ → ℕ) → ℕ → ℕ
place_of x n b f zero = root_at b
place_of x n b f (suc d) = child_at n (get_or x (place_of x n b f d) 0 - 1) (f d)

-- it meets d records
abbrev pub Led : List ℕ → ℕ → ℕ → (ℕ → ℕ) → ℕ → Type 0
Led x n b f d = (i : ℕ) → i < d → get_or x (place_of x n b f i) 0 ≡ 0 → ⊥

-- a whole record before byte e that is no function
pub record TreeMember (t : List ℕ) (e q : ℕ) : Type 0 where
  pub begun : WholeRecordAt t q
  pub low : q < e
  pub other : (front_of (drop q t)).kind ≡ 4 → ⊥

-- a search for the key of the record at q meets it
pub record Held (t x : List ℕ) (q : ℕ) : Type 0 where
  pub depth : ℕ
  pub led : Led x (length t) (tree_in (length t) (front_record (drop q t))) (digit_of (front_record (drop q t))) depth
  pub is : get_or x (place_of x (length t) (tree_in (length t) (front_record (drop q t))) (digit_of (front_record (drop q t))) depth) 0 ≡ suc q

-- how many ways there are behind the record at q
abbrev pub ways_at : List ℕ → ℕ → ℕ
ways_at t q = ways_of (front_of (drop q t)).kind

-- the trees of the records before byte e: each of them is held, and every entry has one of them, with the tree's ways and later than its owner, or none
pub record Tree (t x : List ℕ) (e : ℕ) : Type 0 where
  pub root : (b : ℕ) → b < 2 * bucket_count (length t) → (q : ℕ) → get_or x (root_at b) 0 ≡ suc q → TreeMember t e q × (ways_at t q ≡ ways_in (length t) b)
  pub child : (p : ℕ) → TreeMember t e p → (c : ℕ) → c < ways_at t p → (q : ℕ) → get_or x (child_at (length t) p c) 0 ≡ suc q
      → TreeMember t e q × (p < q) × (ways_at t q ≡ ways_at t p)
  pub held : (q : ℕ) → TreeMember t e q → Held t x q
