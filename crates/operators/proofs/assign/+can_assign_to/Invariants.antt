-- The measure is the sum of both lengths, which each step of the definition makes smaller.
use Prim.Native.Nat.{◌+◌}
use lib.ListN.{length}
use Rattle.operators.proofs.assign.+can_assign_to.Given as goal

abbrev pub decreases-can_assign_to : goal.decreases-can_assign_to
decreases-can_assign_to l = length l.a.now + length l.b.now
