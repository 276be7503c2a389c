use mathlib.Core.Path.{ap}
use Rattle.overload.proofs.ArgumentReports.{reported_as, mismatch_start, mismatch_turn, mismatch_done}
use Rattle.overload.proofs.SingleReports.{mismatch_told}
use Rattle.scoring.specs.declared.score.NamedPass.{NamedPass}
use Rattle.overload.proofs.reports.mismatches.Goals as goal

pub loop-i-init : goal.loop-i-init
loop-i-init g c = let e = c.as_slice-x-items.ensures.value in
    rw e (mismatch_start _ _ _ _ _ _ _ c.as_slice-params.ensures.fits (ap (λ (m : NamedPass). m.marks) c.named_pass.ensures.is))

pub loop-i-preserved : goal.loop-i-preserved
loop-i-preserved g c = mismatch_turn _ _ _ _ _ _ _ _ _ _ c.loop-i.invariant _ c.loop-i-test.true _ (c.parameter_for-own.ensures c.args.above.now) _
    (reported_as _ (mismatch_told _ _ _ _ _ (rw c.type_of.ensures at c.suits_param-fine.ensures)) c.report_if.ensures)

pub returns : goal.returns
returns g c = rw (c.as_slice-x-items.ensures.value, c.as_slice-params.ensures.value) at (mismatch_done _ _ _ _ _ _ _ _ _ _ c.loop-i.invariant c.loop-i-test.false)
