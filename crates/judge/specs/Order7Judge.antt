-- What order 7 claims of the judge. Document 02: "Then with equal buffers the whole answer and every diagnostic are equal in both."
use Rattle.std.specs.Prelude.{ℕ, List, ◌≡◌}
use Rattle.agreement.specs.Order7.{AddsFunction, CallsUndisturbed}
use Rattle.judge.specs.Answered.{Answered}
use Rattle.typing.specs.Answer as of

-- any two results that the judge's contract allows for a question, one under each of two tables and with buffers of one length, are equal: the answers, and the
-- buffers afterwards; `answer_is` and `outcome_is` (Answered) say which answer the result of a call is
abbrev pub SameResults : List ℕ → List ℕ → List ℕ → Type 0
SameResults t u q = (lent : ℕ) (r s : of.Answer) (b c : List ℕ) → Answered t q lent r b → Answered u q lent s c → (r ≡ s) × (b ≡ c)

abbrev pub Order7Judge : Type 0
Order7Judge = (t u : List ℕ) (A : AddsFunction t u) (q : List ℕ) → CallsUndisturbed t u A.more q → SameResults t u q
