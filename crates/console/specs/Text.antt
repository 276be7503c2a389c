-- Numbers and bytes as text: lists of ASCII codes.
use Rattle.std.specs.Prelude.{ℕ, zero, suc, ◌+◌, ◌/◌, ◌%◌, List, [], ◌∷◌, ◌++◌, ltb}
use Rattle.ty.specs.Choose.{choose}

-- the digits of n, the highest first, as far as f of them go: those of n / 10, if n has more than one, and the last
unfoldable pub digits : ℕ → ℕ → List ℕ
digits zero n = []
digits (suc f) n = choose {A = ℕ → List ℕ} (ltb n 10) (λ m. []) (λ m. digits f m) (n / 10) ++ ((48 + n % 10) ∷ [])

-- a number in decimal, without leading zeros: n has at most n + 1 digits
unfoldable pub decimal : ℕ → List ℕ
decimal n = digits (suc n) n

-- a digit below 16: `0` to `9`, then `a` to `f`
unfoldable pub hex_digit : ℕ → ℕ
hex_digit d = choose (ltb d 10) (48 + d) (87 + d)

-- a byte as two hex digits
unfoldable pub hex_byte : ℕ → List ℕ
hex_byte b = hex_digit (b / 16) ∷ hex_digit (b % 16) ∷ []

-- bytes as two-digit hex without gaps
unfoldable pub hex_bytes : List ℕ → List ℕ
hex_bytes [] = []
hex_bytes (b ∷ bs) = hex_byte b ++ hex_bytes bs
