use borrow.Author.Rules.{rules}
use native.Mathlib.Omega.{arith}
use Rattle.judge_text.proofs.Texts.{counted, filled_text, text_short}
use Rattle.judge_text.proofs.answer_text.Goals as goal

pub slice_bounds-ty-end : goal.slice_bounds-ty-end
slice_bounds-ty-end c = (counted _ _ _ _ c.judge-a.ensures.answered.answer).0

pub slice_bounds-print_answer-end : goal.slice_bounds-print_answer-end
slice_bounds-print_answer-end c = (counted _ _ _ _ c.judge-a.ensures.answered.answer).1

pub returns-clause-text : goal.returns-clause-text
returns-clause-text c = (filled_text _ _ _ _ c.judge-a.ensures.answered.answer _ c.judge-a.ensures.answered.buffer c.print_answer.ensures)

pub returns-clause-short : goal.returns-clause-short
returns-clause-short c = (λ h. text_short _ _ _ _ c.judge-a.ensures.answered.answer _ c.judge-a.ensures.answered.buffer (omega arith) (omega arith)
    (omega arith) (λ i. omega (arith, c.slice_known-3-1.given i)) (search rules))
