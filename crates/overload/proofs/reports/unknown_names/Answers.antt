use Rattle.overload.proofs.ArgumentReports.{reported_as, unknown_turn, unknown_done}
use Rattle.overload.proofs.SingleReports.{unknown_told}
use Rattle.overload.proofs.reports.unknown_names.Goals as goal

pub loop-i-preserved : goal.loop-i-preserved
loop-i-preserved c = unknown_turn _ _ _ _ _ c.loop-i.invariant _ _ c.loop-i-test.true
    (λ t. reported_as _ (unknown_told _ _ _ _ _ (c.unknown-test.ensures t)) c.report_if.ensures)

pub returns : goal.returns
returns c = λ t ts. rw c.as_slice-x-items.ensures.value at (unknown_done _ _ _ _ _ c.loop-i.invariant c.loop-i-test.false t ts)
