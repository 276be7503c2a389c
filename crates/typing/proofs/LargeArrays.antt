-- Order 5 by computation, from bytes: Arrays of either width in a table and in a question.
use Prim.Native.Nat.{ℕ}
use lib.ListN.{replicate}
use mathlib.Core.Bool.{true, false}
use mathlib.Core.List.{List, [], ◌∷◌, ◌++◌}
use mathlib.Core.Option.{none, some}
use mathlib.Core.Path.{◌≡◌, refl}
use Rattle.operators.specs.Assign.{assigns}
use Rattle.symbol.specs.Symbols.{Symbols}
use Rattle.ty.specs.Name.{size_id, first_id, keys_id}
use Rattle.typing.proofs.Computed.{computed}
use Rattle.typing.proofs.Marked.{arg, scores_of}
use Rattle.typing.proofs.Samples.{letter, function, param, script, leaf, call, member, int, long, boolean, string, error, nullable, pointer, array, list, diagnostic, Passes, Fails}
use Rattle.typing.specs.Answer.{refused, answer_of}

-- a size in eight bytes: low cells and 2^32 times high ones, both below 256
abbrev large : ℕ → ℕ → List ℕ → List ℕ
large low high t = 22 ∷ 1 ∷ low ∷ 0 ∷ 0 ∷ 0 ∷ high ∷ 0 ∷ 0 ∷ 0 ∷ t

-- the largest size in four bytes, 2^32 - 1, and the same in eight, which is malformed
abbrev largest_small : List ℕ → List ℕ
largest_small t = 14 ∷ 1 ∷ 255 ∷ 255 ∷ 255 ∷ 255 ∷ t

abbrev too_small : List ℕ → List ℕ
too_small t = 22 ∷ 1 ∷ 255 ∷ 255 ∷ 255 ∷ 255 ∷ 0 ∷ 0 ∷ 0 ∷ 0 ∷ t

-- f(p), one overload with 2^32 Ints and one with 2^32 + 1, of another result; f is name 40 and p is 41
abbrev sheets : List ℕ
sheets = letter 102 ++ (letter 112 ++ (function 40 int 1 (param 41 (large 0 1 int)) ++ function 40 string 1 (param 41 (large 1 1 int))))

-- f(p) with an Array of 2^32 - 1 cells
abbrev small_sheet : List ℕ
small_sheet = letter 102 ++ (letter 112 ++ function 40 int 1 (param 41 (largest_small int)))

pub record LargeCases : Type 0 where
  -- assignability by element, whatever the widths
  wider : (S : Symbols) → assigns S (largest_small int) (large 0 1 long) ≡ true
  narrower : (S : Symbols) → assigns S (large 0 1 int) (array long) ≡ true
  other_size : (S : Symbols) → assigns S (large 0 1 int) (large 1 1 int) ≡ true
  from_list : (S : Symbols) → assigns S (list int) (large 0 1 int) ≡ true
  to_list : (S : Symbols) → assigns S (large 0 1 int) (list int) ≡ false
  by_element : (S : Symbols) → assigns S (large 0 1 string) (large 0 1 int) ≡ false
  nested : (S : Symbols) → assigns S (large 0 1 (array int)) (array (large 1 1 long)) ≡ true
  nullables : (S : Symbols) → assigns S (nullable (list int)) (large 0 1 (nullable int)) ≡ true
  -- where types are compared whole, the size counts
  pointers : (S : Symbols) → assigns S (pointer (large 0 1 int)) (pointer (large 1 1 int)) ≡ false
  -- equal bytes score 2 and another size 1, so each of the two is chosen by its own size
  scores : scores_of sheets 40 (arg none (large 1 1 int) ∷ []) ≡ some 1 ∷ some 2 ∷ []
  chosen : Passes sheets (script (call 40 1 (leaf (large 1 1 int)))) string
  -- an Array of four bytes of size fits either, and ties
  tie : Fails sheets (script (call 40 1 (leaf (array int)))) int (diagnostic 19 0 2)
  taken : Passes small_sheet (script (call 40 1 (leaf (large 0 1 int)))) int
  -- members by the element
  size : Passes [] (script (member size_id (leaf (large 0 1 boolean)))) int
  first : Passes [] (script (member first_id (leaf (large 0 1 boolean)))) boolean
  unresolved : Fails [] (script (member keys_id (leaf (large 0 1 boolean)))) error (diagnostic 22 0 0)
  -- a size below 2^32 in eight bytes is malformed, in a table and in a question; so is the flag 0
  in_table : answer_of (letter 102 ++ (letter 112 ++ function 40 int 1 (param 41 (too_small int)))) (script (leaf int)) 20 ≡ refused 2
  in_leaf : answer_of [] (script (leaf (too_small int))) 20 ≡ refused 8
  flag : answer_of [] (script (leaf (22 ∷ 0 ∷ replicate 8 0 ++ int))) 20 ≡ refused 8

pub large_cases : LargeCases
unfolding scores_of computed
large_cases = record {
  wider = λ S. refl;
  narrower = λ S. refl;
  other_size = λ S. refl;
  from_list = λ S. refl;
  to_list = λ S. refl;
  by_element = λ S. refl;
  nested = λ S. refl;
  nullables = λ S. refl;
  pointers = λ S. refl;
  scores = refl;
  chosen = record { answer = refl; buffer = refl };
  tie = record { answer = refl; buffer = refl };
  taken = record { answer = refl; buffer = refl };
  size = record { answer = refl; buffer = refl };
  first = record { answer = refl; buffer = refl };
  unresolved = record { answer = refl; buffer = refl };
  in_table = refl;
  in_leaf = refl;
  flag = refl;
}
