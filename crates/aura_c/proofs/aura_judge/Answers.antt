use lib.ListN.{length}
use native.Mathlib.Omega.{arith}
use Rattle.aura_c.proofs.Results.{cleared_length, told_short, told}
use Rattle.aura_c.proofs.Stored.{part-zeros}
use Rattle.aura_c.proofs.aura_judge.Goals as goal

pub returns-then-answer-lt-ANSWER_SIZE : goal.returns-then-answer-lt-ANSWER_SIZE
returns-then-answer-lt-ANSWER_SIZE c =
    let r =
    told_short c.args.table.now c.args.question.now _ _
    (omega (arith, c.if-answer-lt-ANSWER_SIZE.true, cleared_length c.args.answer.now (c.fill.ensures.after (λ y e. e))))
    (c.fill.ensures.after (λ y e. e)) (c.fill-then-answer-lt-ANSWER_SIZE.ensures.after (λ y e. e)) in
    record { value = r.0; answer_after = r.1.0; diagnostics_after = r.1.1 }

pub judge_into-outcome-requires : goal.judge_into-outcome-requires
judge_into-outcome-requires c =
    part-zeros (length c.args.answer.now) (omega (arith, c.if-answer-lt-ANSWER_SIZE.false, cleared_length c.args.answer.now (c.fill.ensures.after (λ y e. e))))
    (c.fill.ensures.after (λ y e. e))

pub returns : goal.returns
returns c =
    let r =
    told c.args.table.now c.args.question.now _ _ c.front_of-a.result c.judge_into-outcome.result _
    (omega (arith, c.if-answer-lt-ANSWER_SIZE.false, cleared_length c.args.answer.now (c.fill.ensures.after (λ y e. e))))
    c.front_of-a.ensures c.judge_into-outcome.ensures.answer (c.fill.ensures.after (λ y e. e)) c.put_front.ensures c.judge_into-outcome.ensures.buffer in
    record { value = r.0; answer_after = r.1.0; diagnostics_after = r.1.1 }
