use mathlib.Core.Path.{◌≡◌}
use Rattle.judge.proofs.Answering.{ret_question}
use Rattle.judge.specs.declared.refusal.Refusal.TheVariants.{Question}
use Rattle.std.proofs.Common.{rules, Err}
use Rattle.judge.proofs.room.judge_checked.Goals as goal

pub returns-in_err-check_question : goal.returns-in_err-check_question
returns-in_err-check_question c =
    let e : c.from_residual.result ≡ Err (Question c.in_err-check_question.field-0.0) = search rules in
    rw e (ret_question _ _ _ c.requires.1 c.requires.2 _ c.in_err-check_question.ensures _ c.requires.0.blank _ c.requires.0.buffer)
