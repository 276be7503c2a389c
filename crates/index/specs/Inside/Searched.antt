-- A search along the functions of one bucket.
use Rattle.std.specs.Prelude.{ℕ, ◌%◌, ◌≡◌, List, length}
use Rattle.index.specs.Inside.Bucket.{key_bucket}
use Rattle.index.specs.Inside.Found.{Found, found_at}
use Rattle.index.specs.Inside.Index.{list_count, next_from}
use Rattle.record.specs.Inside.Walk.{Sits}

-- f is the first function of the bucket of the key a, b at the byte `from` or behind it
pub record Searched (t : List ℕ) (f : Found) (a b : ℕ) : Type 0 where
  pub from : ℕ
  pub sits : Sits t from
  pub is : f ≡ found_at (next_from t (key_bucket 4 a b % list_count (length t)) from)
