-- The index that the check of a table leaves: the records before the first one that draws a number have come into the lent one, each by itself, and at the end
-- of an accepted table the number of names.
use Rattle.std.specs.Prelude.{ℕ, zero, suc, ◌+◌, ◌-◌, ltb, eqb, length, get_or, set, drop, List, [], ◌∷◌, ◌≡◌}
use Rattle.ty.specs.Choose.{choose}
use Rattle.index.specs.Inside.Bucket.{digit_of}
use Rattle.index.specs.Inside.Entered.{entered}
use Rattle.record.specs.Inside.Front.{front_of}
use Rattle.record.specs.Inside.HeadFault.{head_fault}
use Rattle.record.specs.Inside.FrontRecord.{count_of}
use Rattle.record.specs.Table.{Record, records_of, before}
use Rattle.record.specs.declared.walk.Cursor.{Cursor}
use Rattle.index.specs.Inside.Index.{tree_in, list_in, root_at, child_at}

-- where a search by the digits f that stands at entry a behind d records ends, within k records
unfoldable pub end_from : ℕ → List ℕ → ℕ → (ℕ → ℕ) → ℕ → ℕ → ℕ
end_from zero x n f d a = a
end_from (suc k) x n f d a = choose (eqb (get_or x a 0) 0) a (end_from k x n f (suc d) (child_at n (get_or x a 0 - 1) (f d)))

-- the entry that a record with a key of its own fills
unfoldable pub entry_of : ℕ → Record → List ℕ → ℕ
entry_of n r x = end_from (2 + n) x n (digit_of r) 0 (root_at (tree_in n r))

-- the record r at byte p comes into the index: a function behind the last one of its bucket, another record in its tree
unfoldable pub placed : ℕ → ℕ → Record → List ℕ → List ℕ
placed n p r x = choose (eqb (front_of r).kind 4) (entered n (list_in n r) p x) (set x (entry_of n r x) (suc p))

-- some records, of which the first begins at byte p, behind some earlier ones
unfoldable pub made_from : ℕ → ℕ → List Record → List Record → List ℕ → List ℕ
made_from n p earlier [] x = set x 0 (count_of 1 earlier)
made_from n p earlier (r ∷ rs) x =
    choose (eqb (head_fault earlier r (r ∷ rs)) 0) (made_from n (p + (front_of r).len) (r ∷ earlier) rs (placed n p r x)) x

-- a table that is too long changes nothing
unfoldable pub index_made : List ℕ → List ℕ → List ℕ
index_made t x = choose (ltb 60000 (length t)) x (made_from (length t) 0 [] (records_of t) x)

-- What is left to be done with x, from the record at c on, comes to the same as all of it with x₀.
abbrev pub Making : List ℕ → List ℕ → List ℕ → Cursor → Type 0
Making t x₀ x c = made_from (length t) c.at (before c.index (records_of t)) (records_of (drop c.at t)) x ≡ index_made t x₀
