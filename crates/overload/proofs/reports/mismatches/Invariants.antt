use Rattle.overload.proofs.ArgumentReports.{MismatchFrom}
use Rattle.symbol.specs.Lookup.{symbols_of}
use Rattle.overload.proofs.reports.mismatches.Given as goal

abbrev pub invariant-loop-i : goal.invariant-loop-i
invariant-loop-i g l = MismatchFrom (symbols_of l.above) l.above l.params l.marks l.slots l.x-items l.initial.reports l.reports l.next l.i
