-- Where a search in the index ends.
use Rattle.std.specs.Prelude.{Result, Ok, Err, ℕ, suc, ◌≤◌, ◌<◌, true, false, ◌≡◌, List, length, get_or, drop}
use Rattle.index.specs.Inside.SearchKey.{tree_for, digit_for, key_matches}
use Rattle.record.specs.Inside.FrontRecord.{front_record}
use Rattle.index.specs.Inside.SearchTree.{place_of, Led, TreeMember, Tree}
use Rattle.index.specs.declared.index.Place.{Place}
use Rattle.index.specs.declared.tree.Key.{Key}

-- what a search asks: the trees of the records before some byte
pub record Open (t x : List ℕ) : Type 0 where
  pub short : length t ≤ 60000
  pub end : ℕ
  pub inside : end ≤ length t
  pub tree : Tree t x end

-- the entry of a search for a key behind d records
abbrev pub place_for : List ℕ → List ℕ → Key → ℕ → ℕ
place_for t x k d = place_of x (length t) (tree_for t k) (digit_for t k) d

-- a record with the key
pub record TakenIs (t : List ℕ) (e : ℕ) (k : Key) (p : Place) : Type 0 where
  pub node : TreeMember t e p.at
  pub has : key_matches t k (front_record (drop p.at t)) ≡ true

-- an empty entry, behind records without the key
pub record FreeIs (t x : List ℕ) (k : Key) (a : ℕ) : Type 0 where
  pub depth : ℕ
  pub led : Led x (length t) (tree_for t k) (digit_for t k) depth
  pub place : a ≡ place_for t x k depth
  pub empty : get_or x a 0 ≡ 0
  pub few : depth ≤ suc (length t)
  pub met : (i : ℕ) → i < depth → (q : ℕ) → get_or x (place_for t x k i) 0 ≡ suc q → key_matches t k (front_record (drop q t)) ≡ false

abbrev pub SpotIs : List ℕ → List ℕ → ℕ → Key → Result Place ℕ → Type 0
SpotIs t x e k (Ok p) = TakenIs t e k p
SpotIs t x e k (Err a) = FreeIs t x k a
