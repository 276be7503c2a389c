-- Order 7's claim of the judge holds.
use Prim.Native.Nat.{ℕ}
use mathlib.Core.List.{List}
use mathlib.Core.Path.{sym, ◌∙◌}
use Rattle.agreement.proofs.Order7.{order7}
use Rattle.agreement.specs.SameAnswers.{SameAnswers}
use Rattle.judge.specs.Order7Judge.{SameResults, Order7Judge}

-- where the definition's answers are the same, so are the judge's
pub same_results : (t u q : List ℕ) → SameAnswers t u q → SameResults t u q
same_results t u q same lent r s b c f g =
    (f.answer ∙ (same lent).0 ∙ sym g.answer, f.buffer ∙ (same lent).1 ∙ sym g.buffer)

pub order7_judge : Order7Judge
order7_judge t u A q calls = same_results t u q (order7 t u A q calls)
