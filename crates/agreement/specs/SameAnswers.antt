-- One question under two tables. Document 02, orders 7, 10 and 11: with equal buffers the same answer and diagnostics.
use Rattle.std.specs.Prelude.{ℕ, List, ◌≡◌}
use Rattle.typing.specs.Answer.{answer_of, buffer_of}

-- "with equal buffers the whole answer and every diagnostic are equal in both": for every length of the lent buffer, its every byte
abbrev pub SameAnswers : List ℕ → List ℕ → List ℕ → Type 0
SameAnswers t u q = (lent : ℕ) → (answer_of t q lent ≡ answer_of u q lent) × (buffer_of t q lent ≡ buffer_of u q lent)
