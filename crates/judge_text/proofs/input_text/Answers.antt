use Rattle.judge_text.proofs.Texts.{told_input}
use Rattle.judge_text.proofs.input_text.Goals as goal

pub returns : goal.returns
returns c =
    let e = c.answer_text.ensures in
    let r = told_input c.args.input.now _ _ c.parts.ensures.table c.parts.ensures.question (e.text, (e.short, e.buffer)) in
    record { text = r.0; short = r.1.0; buffer = r.1.1 }
