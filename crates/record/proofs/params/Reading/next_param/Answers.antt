use borrow.Author.Tests.{ne_eqb}
use lib.Dec.{eqb}
use mathlib.Core.Path.{◌≡◌, sym, ap, ◌∙◌}
use Rattle.std.proofs.Common.{Err}
use Rattle.record.proofs.ParamSteps.{back_to, answer_step}
use Rattle.record.specs.Inside.Front.{run_of, stopped, reading_answer, param_step}
use Rattle.ty.specs.Choose.{choose}
use Rattle.ty.proofs.Choice.{chain, choose_yes, choose_no}
use Rattle.record.proofs.params.Reading.next_param.Goals as goal

pub returns-then-s-at-lt3 : goal.returns-then-s-at-lt3
unfolding param_step reading_answer choose
returns-then-s-at-lt3 c =
    let e : stopped (run_of c.args.self) ≡ param_step c.args.s.now (run_of c.args.self) = search chain depth 14 in ap Err c.broken.ensures ∙ ap reading_answer e

pub returns-then-byte_at-gt3 : goal.returns-then-byte_at-gt3
unfolding param_step reading_answer choose
returns-then-byte_at-gt3 c =
    let e : stopped (run_of c.args.self) ≡ param_step c.args.s.now (run_of c.args.self) = rw (← c.byte_at.ensures) (search chain depth 14) in ap Err c.broken-then-byte_at-gt3.ensures ∙ ap reading_answer e

pub returns-in-Ok : goal.returns-in-Ok
returns-in-Ok c =
    ap (back_to c.args.self) (sym c.in-Ok.is)
    ∙ answer_step c.args.s.now c.args.self c.named.result c.byte_at.result c.id_at.result c.typed.result c.if-s-at-lt3.false c.byte_at.ensures
    c.if-byte_at-gt3.false c.id_at.ensures c.named.ensures c.typed.ensures

pub returns-then-f : goal.returns-then-f
returns-then-f c =
    sym (choose_yes _ _ _ (ap (λ n. eqb n 2) c.if-f.true))
    ∙ ap (back_to c.args.self) (sym c.in-Err.is)
    ∙ answer_step c.args.s.now c.args.self c.named.result c.byte_at.result c.id_at.result c.typed.result c.if-s-at-lt3.false c.byte_at.ensures
    c.if-byte_at-gt3.false c.id_at.ensures c.named.ensures c.typed.ensures

pub returns-else-f : goal.returns-else-f
returns-else-f c =
    ap Err c.broken-in-Err.ensures
    ∙ sym (choose_no _ _ _ (ne_eqb _ _ c.if-f.false))
    ∙ ap (back_to c.args.self) (sym c.in-Err.is)
    ∙ answer_step c.args.s.now c.args.self c.named.result c.byte_at.result c.id_at.result c.typed.result c.if-s-at-lt3.false c.byte_at.ensures
    c.if-byte_at-gt3.false c.id_at.ensures c.named.ensures c.typed.ensures
