use Prim.Native.Nat.{◌-◌, ◌+◌}
use mathlib.Core.Path.{◌≡◌, sym, ◌∙◌}
use native.Mathlib.Omega.{arith}
use Rattle.question.proofs.QuestionFaults.{failed, some_number}
use Rattle.question.proofs.NodeReading.{step_few}
use Rattle.question.proofs.Walking.{more_fault_at, stop_fault, turn_fault}
use Rattle.question.proofs.check_tree.Goals as goal

pub returns-in_err-checked : goal.returns-in_err-checked
returns-in_err-checked c =
    let e = failed c.from_residual.result c.in_err-checked.field-0.0 c.from_residual.ensures.1 in
    let n = c.in_err-checked.ensures.number in
    e ∙ n ∙ stop_fault c.args.names c.args.question.now (64 - c.loop-passed._passed) c.loop-passed.walk _ c.in-Some.read c.in-Some.ensures (omega arith)
    (λ z. some_number c.in_err-checked.field-0.0 (n ∙ z)) ∙ c.loop-passed.invariant.0

pub loop-passed-preserved : goal.loop-passed-preserved
loop-passed-preserved c =
    let s = c.loop-passed in
    let d : 64 - (s._passed + 1) ≡ 64 - s._passed - 1 = omega arith in (
      rw d (turn_fault c.args.names c.args.question.now (64 - s._passed) s.walk _ c.in-Some.read c.in-Some.ensures (omega arith) (sym c.in_ok-checked.ensures.number) ∙ s.invariant.0),
      omega (arith, step_few c.args.question.now s.walk.at, s.invariant, c.in-Some.ensures),
    )

pub returns-in-Some-step : goal.returns-in-Some-step
returns-in-Some-step c =
    c.more.ensures
    ∙ more_fault_at c.args.names c.args.question.now (64 - c.loop-passed._passed) c.loop-passed.walk _ c.in-Some-step.read c.in-Some-step.ensures (omega arith)
    ∙ c.loop-passed.invariant.0
