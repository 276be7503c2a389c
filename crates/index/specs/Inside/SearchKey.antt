-- What a search in the index looks for.
use Rattle.std.specs.Prelude.{ℕ, ◌+◌, ◌%◌, ◌≤◌, Bool, ◌&&◌, ◌||◌, ◌≡◌, List, eqb, ltb, length, get_or, drop, take}
use Rattle.ty.specs.Bytes.{same_bytes, id_at}
use Rattle.ty.specs.Choose.{choose}
use Rattle.record.specs.Inside.NameHash.{hash_of}
use Rattle.index.specs.Inside.Bucket.{name_digits, name_digit, key_bucket, key_digits, key_digit}
use Rattle.record.specs.Inside.Front.{front_of}
use Rattle.record.specs.Inside.Keyed.{is_of}
use Rattle.record.specs.Inside.HeadFault.{name_bytes}
use Rattle.record.specs.Table.{Record}
use Rattle.index.specs.Inside.Index.{bucket_count}
use Rattle.record.specs.Inside.Front.{Front}
use Rattle.index.specs.declared.tree.Key.{Key}
use Rattle.index.specs.declared.tree.Key.TheVariants.{Name, Ids}
use Rattle.record.specs.declared.walk.Cursor.{Cursor}

-- the 24 bytes of the name record at byte p
abbrev pub name_bytes_at : List ℕ → ℕ → List ℕ
name_bytes_at t p = take 24 (drop (p + 2) t)

-- its tree, the number that its digit behind d records is taken from, and its digits
abbrev pub tree_for : List ℕ → Key → ℕ
tree_for t (Name p) = hash_of (name_bytes_at t p.at) % bucket_count (length t)
tree_for t (Ids k a b) = bucket_count (length t) + key_bucket k a b % bucket_count (length t)

abbrev pub digits_for : List ℕ → Key → ℕ → ℕ
digits_for t (Name p) d = name_digits (name_bytes_at t p.at) d
digits_for t (Ids k a b) d = key_digits k a b

abbrev pub digit_for : List ℕ → Key → ℕ → ℕ
digit_for t (Name p) = name_digit (name_bytes_at t p.at)
digit_for t (Ids k a b) = key_digit k a b

-- the record at byte p is of a kind and has a key, by its bytes; of kinds 2 and 3 the key is the first id alone
abbrev pub has_ids : List ℕ → ℕ → ℕ → ℕ → ℕ → Bool
has_ids t p kind one two = eqb (get_or t p 0) kind && (eqb (id_at t (p + 1)) one && (ltb kind 4 || eqb (id_at t (p + 3)) two))

-- a record has the key
abbrev pub key_matches : List ℕ → Key → Record → Bool
key_matches t (Name p) r = eqb (front_of r).kind 1 && same_bytes (name_bytes r) (name_bytes_at t p.at)
key_matches t (Ids k a b) r = is_of k a b (front_of r)

-- a kind of records with a key of its own for each: from 2 on, but not the functions
pub record Single (k : ℕ) : Type 0 where
  pub low : 2 ≤ k
  pub other : k ≡ 4 → ⊥

-- the name lies in the table, the kind has keys
abbrev pub KeyIn : List ℕ → Key → Type 0
KeyIn t (Name p) = p.at + 26 ≤ length t
KeyIn t (Ids k a b) = 2 ≤ k

-- the key of the record h at the cursor
unfoldable pub key_at : Cursor → Front → Key
key_at c h = choose (eqb h.kind 1) (Name (record { at = c.at })) (Ids h.kind h.one h.two)
