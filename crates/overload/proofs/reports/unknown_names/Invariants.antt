use Rattle.overload.proofs.ArgumentReports.{UnknownFrom}
use Rattle.overload.proofs.reports.unknown_names.Given as goal

abbrev pub invariant-loop-i : goal.invariant-loop-i
invariant-loop-i l = UnknownFrom l.fn.params l.x-items l.initial.reports l.reports l.i
