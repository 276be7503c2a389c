use mathlib.Core.Path.{◌≡◌}
use Rattle.judge.proofs.Answering.{ret_table}
use Rattle.judge.specs.declared.refusal.Refusal.TheVariants.{Table}
use Rattle.std.proofs.Common.{rules, Err}
use Rattle.judge.proofs.room.judge_with.Goals as goal

pub returns-in_err-names-clause-answered_into : goal.returns-in_err-names-clause-answered_into
returns-in_err-names-clause-answered_into c =
    let e : c.from_residual.result ≡ Err (Table c.in_err-names.field-0.0) = search rules in
    rw e (ret_table _ _ _ _ c.in_err-names.ensures.number _ c.requires.0.blank _ c.requires.0.buffer)
