-- Diagnostics, and what a lent buffer holds of them. Document 01, "Answer": diagnostics are records of 5 bytes in order, kind, 2-byte node, 2-byte number.
use Rattle.std.specs.Prelude.{ℕ, ◌+◌, ◌*◌, List, [], ◌∷◌, ◌++◌, leb, length}
use Rattle.std.proofs.lemmas.List.Edits.{sets}
use Rattle.ty.specs.Bytes.{two_bytes}
use Rattle.ty.specs.Choose.{choose}

pub record Diag : Type 0 where
  pub kind : ℕ
  pub node : ℕ
  pub number : ℕ

-- how many bytes a record has
abbrev pub record_length : ℕ
record_length = 5

unfoldable pub record_of : Diag → List ℕ
record_of d = d.kind ∷ (two_bytes d.node ++ two_bytes d.number)

-- the records in order
unfoldable pub records : List Diag → List ℕ
records [] = []
records (d ∷ ds) = record_of d ++ records ds

-- a buffer after one diagnostic, n having been reported before: the record is written only where it fits wholly
unfoldable pub put_one : List ℕ → ℕ → Diag → List ℕ
put_one b n d = choose (leb (record_length * n + record_length) (length b)) (sets b (record_length * n) (record_of d)) b

-- and after several
unfoldable pub put_all : List ℕ → ℕ → List Diag → List ℕ
put_all b n [] = b
put_all b n (d ∷ ds) = put_all (put_one b n d) (n + 1) ds

-- A count stays below this: `report` asks it, so that its sums cannot wrap. It is 2 to the 40th; 64 nodes report far fewer.
abbrev pub count_limit : ℕ
count_limit = 1099511627776
