use native.Mathlib.Omega.{arith}
use Rattle.overload.proofs.SingleReports.{count_few}
use Rattle.overload.proofs.before.before_method.Goals as goal

pub report_suspend-requires : goal.report_suspend-requires
report_suspend-requires c = omega (arith, count_few _ _ _ _ _ c.report_if.ensures, c.requires)
