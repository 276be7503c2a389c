-- The hash of a name, by which the check of a table tells names apart quickly; nothing but speed depends on it.
use Rattle.std.specs.Prelude.{ℕ, ◌+◌, ◌*◌, ◌/◌, ◌%◌, List, [], ◌∷◌, get_or}
use Rattle.std.specs.Int.{from_le_bytes}
use mir.Syntax.{w64}

-- eight bytes of a name from byte i on as a number, low byte first
unfoldable pub eight_at : List ℕ → ℕ → ℕ
eight_at name i =
    from_le_bytes w64
    (get_or name i 0 ∷ get_or name (i + 1) 0 ∷ get_or name (i + 2) 0 ∷ get_or name (i + 3) 0 ∷ get_or name (i + 4) 0 ∷ get_or name (i + 5) 0
    ∷ get_or name (i + 6) 0 ∷ get_or name (i + 7) 0 ∷ [])

-- the three parts of a name, each times an odd number of its own, in 64 bits
unfoldable pub weighed_of : List ℕ → ℕ
weighed_of name =
    (eight_at name 0 * 15837372998040177803 + eight_at name 8 * 15377906377925924563 + eight_at name 16 * 17415691914075052159) % 18446744073709551616

-- the upper 16 bits of that, and the upper 8 of them added once more, since the lower 8 do not depend on the last byte of a part
unfoldable pub hash_of : List ℕ → ℕ
hash_of name = (weighed_of name / 281474976710656 + weighed_of name / 72057594037927936) % 65536
