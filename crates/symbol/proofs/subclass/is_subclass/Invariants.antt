use Rattle.symbol.proofs.Ranks.{height}
use Rattle.symbol.proofs.Subclasses.{ClimbingAt}
use Rattle.symbol.proofs.subclass.is_subclass.Given as goal
use Rattle.ty.specs.Name.{id_number}

abbrev pub invariant-loop-at : goal.invariant-loop-at
invariant-loop-at l = ClimbingAt l.table l.class l.above l.at

abbrev pub decreases-loop-at : goal.decreases-loop-at
decreases-loop-at l = height l.table (id_number l.at)
