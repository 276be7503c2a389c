use Rattle.std.proofs.Common.{rules}
use Rattle.overload.proofs.SingleReports.{unknown_by}
use Rattle.overload.proofs.reports.unknown.Goals as goal

pub returns : goal.returns
returns c = λ t. unknown_by t _ _ _ _ c.is_some_and.ensures (λ id q. search rules)
