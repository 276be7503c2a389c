-- The spellings of the built-in names, in the order of their ids. Document 01, "Types as bytes": the built-in names have fixed numbers.
use Rattle.std.specs.Prelude.{ℕ, Bool, false, ◌||◌, List, [], ◌∷◌, ◌++◌, take, replicate}
use Rattle.ty.specs.Bytes.{same_bytes}

-- a name as a record has it: 24 bytes, zero-padded
abbrev pub in_twenty_four : List ℕ → List ℕ
in_twenty_four name = take 24 (name ++ replicate 24 0)

-- Pair, List, ArrayList, MutableList, Array, Set, plus, minus, times, div, mod, eq, ne, lt, gt, le, ge, toString, hashCode, equals, first, second, size, count,
-- isEmpty, last, get, getAt, set, add, push, append, contains, indexOf, length, isNotEmpty, trim, lowercase, uppercase, keys
unfoldable pub builtin_names : List (List ℕ)
builtin_names =
    in_twenty_four (80 ∷ 97 ∷ 105 ∷ 114 ∷ []) ∷
    in_twenty_four (76 ∷ 105 ∷ 115 ∷ 116 ∷ []) ∷
    in_twenty_four (65 ∷ 114 ∷ 114 ∷ 97 ∷ 121 ∷ 76 ∷ 105 ∷ 115 ∷ 116 ∷ []) ∷
    in_twenty_four (77 ∷ 117 ∷ 116 ∷ 97 ∷ 98 ∷ 108 ∷ 101 ∷ 76 ∷ 105 ∷ 115 ∷ 116 ∷ []) ∷
    in_twenty_four (65 ∷ 114 ∷ 114 ∷ 97 ∷ 121 ∷ []) ∷
    in_twenty_four (83 ∷ 101 ∷ 116 ∷ []) ∷
    in_twenty_four (112 ∷ 108 ∷ 117 ∷ 115 ∷ []) ∷
    in_twenty_four (109 ∷ 105 ∷ 110 ∷ 117 ∷ 115 ∷ []) ∷
    in_twenty_four (116 ∷ 105 ∷ 109 ∷ 101 ∷ 115 ∷ []) ∷
    in_twenty_four (100 ∷ 105 ∷ 118 ∷ []) ∷
    in_twenty_four (109 ∷ 111 ∷ 100 ∷ []) ∷
    in_twenty_four (101 ∷ 113 ∷ []) ∷
    in_twenty_four (110 ∷ 101 ∷ []) ∷
    in_twenty_four (108 ∷ 116 ∷ []) ∷
    in_twenty_four (103 ∷ 116 ∷ []) ∷
    in_twenty_four (108 ∷ 101 ∷ []) ∷
    in_twenty_four (103 ∷ 101 ∷ []) ∷
    in_twenty_four (116 ∷ 111 ∷ 83 ∷ 116 ∷ 114 ∷ 105 ∷ 110 ∷ 103 ∷ []) ∷
    in_twenty_four (104 ∷ 97 ∷ 115 ∷ 104 ∷ 67 ∷ 111 ∷ 100 ∷ 101 ∷ []) ∷
    in_twenty_four (101 ∷ 113 ∷ 117 ∷ 97 ∷ 108 ∷ 115 ∷ []) ∷
    in_twenty_four (102 ∷ 105 ∷ 114 ∷ 115 ∷ 116 ∷ []) ∷
    in_twenty_four (115 ∷ 101 ∷ 99 ∷ 111 ∷ 110 ∷ 100 ∷ []) ∷
    in_twenty_four (115 ∷ 105 ∷ 122 ∷ 101 ∷ []) ∷
    in_twenty_four (99 ∷ 111 ∷ 117 ∷ 110 ∷ 116 ∷ []) ∷
    in_twenty_four (105 ∷ 115 ∷ 69 ∷ 109 ∷ 112 ∷ 116 ∷ 121 ∷ []) ∷
    in_twenty_four (108 ∷ 97 ∷ 115 ∷ 116 ∷ []) ∷
    in_twenty_four (103 ∷ 101 ∷ 116 ∷ []) ∷
    in_twenty_four (103 ∷ 101 ∷ 116 ∷ 65 ∷ 116 ∷ []) ∷
    in_twenty_four (115 ∷ 101 ∷ 116 ∷ []) ∷
    in_twenty_four (97 ∷ 100 ∷ 100 ∷ []) ∷
    in_twenty_four (112 ∷ 117 ∷ 115 ∷ 104 ∷ []) ∷
    in_twenty_four (97 ∷ 112 ∷ 112 ∷ 101 ∷ 110 ∷ 100 ∷ []) ∷
    in_twenty_four (99 ∷ 111 ∷ 110 ∷ 116 ∷ 97 ∷ 105 ∷ 110 ∷ 115 ∷ []) ∷
    in_twenty_four (105 ∷ 110 ∷ 100 ∷ 101 ∷ 120 ∷ 79 ∷ 102 ∷ []) ∷
    in_twenty_four (108 ∷ 101 ∷ 110 ∷ 103 ∷ 116 ∷ 104 ∷ []) ∷
    in_twenty_four (105 ∷ 115 ∷ 78 ∷ 111 ∷ 116 ∷ 69 ∷ 109 ∷ 112 ∷ 116 ∷ 121 ∷ []) ∷
    in_twenty_four (116 ∷ 114 ∷ 105 ∷ 109 ∷ []) ∷
    in_twenty_four (108 ∷ 111 ∷ 119 ∷ 101 ∷ 114 ∷ 99 ∷ 97 ∷ 115 ∷ 101 ∷ []) ∷
    in_twenty_four (117 ∷ 112 ∷ 112 ∷ 101 ∷ 114 ∷ 99 ∷ 97 ∷ 115 ∷ 101 ∷ []) ∷
    in_twenty_four (107 ∷ 101 ∷ 121 ∷ 115 ∷ []) ∷
    []

-- a name's 24 bytes are among some
unfoldable pub spelled : List ℕ → List (List ℕ) → Bool
spelled name [] = false
spelled name (x ∷ xs) = same_bytes name x || spelled name xs
