-- What the code keeps of a table's records: where the first ends, and how many of a kind there are. Laws `records-here` (proofs Records) and `same_count`
-- (proofs Laid) tie it to `records_of` and `of_kind`.
use Rattle.std.specs.Prelude.{ℕ, ◌+◌, List, [], ◌∷◌, take, eqb}
use Rattle.ty.specs.Choose.{choose}
use Rattle.record.specs.Inside.Front.{front_of}
use Rattle.record.specs.Table.{Record}

-- the record at the front of some bytes: a malformed or cut one, or one with a type without end, is all of them
abbrev pub front_record : List ℕ → Record
front_record s = take (front_of s).len s

-- how many of some records have kind k
unfoldable pub count_of : ℕ → List Record → ℕ
count_of k [] = 0
count_of k (r ∷ rs) = choose (eqb (front_of r).kind k) 1 0 + count_of k rs
