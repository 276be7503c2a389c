-- A test of a name's hash that each built-in spelling passes and few other names do: nothing but the speed of the search for a spelling depends on it. Law
-- `not_spelled` (proofs SpellingRows) ties it to `builtin_names`.
use Rattle.std.specs.Prelude.{ℕ, ◌/◌, ◌%◌, ◌^◌, Bool, List, [], ◌∷◌, get_or, eqb}

-- a bit for each hash modulo 1,024 that a built-in spelling has, 64 to a word
unfoldable pub sieve_words : List ℕ
sieve_words =
    8796093022464 ∷ 18300271801139200 ∷ 0 ∷ 144132780261900356 ∷ 9359043042738176 ∷ 288230376151711746 ∷ 9216 ∷ 290271069733124
    ∷ 36028797023166472 ∷ 0 ∷ 32896 ∷ 8192 ∷ 10995116277760 ∷ 4295033088 ∷ 139264 ∷ 18014398543036432 ∷ []

-- a name's hash has its bit
unfoldable pub may_be_builtin : ℕ → Bool
may_be_builtin h = eqb (get_or sieve_words (h / 64 % 16) 0 / 2 ^ (h % 64) % 2) 1
