use lib.ListN.{length}
use Rattle.std.proofs.Common.{◌≡◌}
use Rattle.operators.specs.Inside.Core.{core_of}
use Rattle.operators.proofs.assign.core_of.Given as goal

abbrev pub invariant-loop-at : goal.invariant-loop-at
invariant-loop-at l = core_of l.at ≡ core_of l.t

abbrev pub decreases-loop-at : goal.decreases-loop-at
decreases-loop-at l = length l.at
