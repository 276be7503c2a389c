-- An argument of the program as a number, in decimal.
use Rattle.std.specs.Prelude.{ℕ, ◌+◌, ◌-◌, ◌*◌, min, ltb, Bool, ◌||◌, List, [], ◌∷◌, Option, Some, None}
use Rattle.ty.specs.Choose.{choose}

-- 2^32, which every larger number counts as: it is no start number, and no node count of a question
abbrev pub too_large : ℕ
too_large = 4_294_967_296

abbrev pub no_digit : ℕ → Bool
no_digit b = ltb b 48 || ltb 57 b

-- the number of which n are the digits before b
unfoldable pub more_digits : ℕ → ℕ → ℕ
more_digits n b = min (10 * n + (b - 48)) too_large

-- n are the digits before a text; none where a byte is no digit
unfoldable pub number_from : ℕ → List ℕ → Option ℕ
number_from n [] = Some n
number_from n (b ∷ s) = choose (no_digit b) None (number_from (more_digits n b) s)

-- the number that a text is, which has at least one digit
unfoldable pub number_in : List ℕ → Option ℕ
number_in [] = None
number_in (b ∷ s) = number_from 0 (b ∷ s)
