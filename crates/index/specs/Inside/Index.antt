-- The index of a table: hash-indexed digital search trees for records with keys, hashed lists for functions.
-- It has an entry for the number of names; for each bucket of names and each of other keys one for the root of its tree; for each bucket of lists one for its
-- first and one for its last function; and two for each fifth byte: a function's first is for the next function of its bucket, another record's are for those
-- below it in its tree. A record is given by its first byte, counted from 1; 0 is none. A record has at least 5 bytes and so two entries of its own, a name has
-- 26 and so ten.
use Rattle.std.specs.Prelude.{ℕ, suc, ◌+◌, ◌*◌, ◌/◌, ◌%◌, List, [], ◌∷◌, length, drop, ltb, eqb}
use Rattle.ty.specs.Choose.{choose}
use Rattle.index.specs.Inside.Bucket.{bucket_of}
use Rattle.index.specs.declared.index.TableSize.{TableSize}
use Rattle.index.specs.declared.index.TableSize.TheVariants.{Short, Middle, Long}
use Rattle.record.specs.Inside.Front.{front_of}
use Rattle.record.specs.Table.{Record, records_of}

-- tables of at most so many bytes have a small index, or one of middle size
abbrev pub short_table : ℕ
short_table = 2048

abbrev pub middle_table : ℕ
middle_table = 16384

-- the size of the index of a table of n bytes, and one of three numbers by it
unfoldable pub size_of : ℕ → TableSize
size_of n = choose (ltb middle_table n) Long (choose (ltb short_table n) Middle Short)

abbrev pub sized : TableSize → ℕ → ℕ → ℕ → ℕ
sized Short a b c = a
sized Middle a b c = b
sized Long a b c = c

-- how many buckets of names there are for a table of n bytes, and as many of other keys; and how many of lists
unfoldable pub bucket_count : ℕ → ℕ
bucket_count n = choose (ltb middle_table n) 8192 (choose (ltb short_table n) 2048 256)

unfoldable pub list_count : ℕ → ℕ
list_count n = choose (ltb middle_table n) 1024 (choose (ltb short_table n) 256 64)

-- where a tree's root stands in the index, where a list's first and last function do, and where the entries of a record do
abbrev pub root_at : ℕ → ℕ
root_at b = 1 + b

abbrev pub first_at : ℕ → ℕ → ℕ
first_at n b = 1 + 2 * bucket_count n + b

abbrev pub last_at : ℕ → ℕ → ℕ
last_at n b = 1 + 2 * bucket_count n + list_count n + b

abbrev pub unit_base : ℕ → ℕ
unit_base n = 1 + 2 * bucket_count n + 2 * list_count n

abbrev pub child_at : ℕ → ℕ → ℕ → ℕ
child_at n p c = unit_base n + 2 * (p / 5) + c

unfoldable pub ways_in : ℕ → ℕ → ℕ
ways_in n b = choose (ltb b (bucket_count n)) 8 2

abbrev pub next_at : ℕ → ℕ → ℕ
next_at n p = child_at n p 0

-- how many entries there are
abbrev pub index_size : ℕ → ℕ
index_size n = child_at n n 2

-- the tree of a record: the names have trees of their own
unfoldable pub tree_in : ℕ → Record → ℕ
tree_in n r = choose (eqb (front_of r).kind 1) (bucket_of r % bucket_count n) (bucket_count n + bucket_of r % bucket_count n)

-- the bucket of a record among the lists; what is no function has none
unfoldable pub list_in : ℕ → Record → ℕ
list_in n r = choose (eqb (front_of r).kind 4) (bucket_of r % list_count n) (list_count n)

-- the first function of bucket b among some records, of which the first begins at byte p
unfoldable pub next_in : ℕ → ℕ → ℕ → List Record → ℕ
next_in n b p [] = 0
next_in n b p (r ∷ rs) = choose (eqb (list_in n r) b) (suc p) (next_in n b (p + length r) rs)

-- the first function of bucket b at byte p or behind it
abbrev pub next_from : List ℕ → ℕ → ℕ → ℕ
next_from t b p = next_in (length t) b p (records_of (drop p t))
