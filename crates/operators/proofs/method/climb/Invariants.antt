use Rattle.symbol.proofs.Ranks.{height}
use Rattle.operators.proofs.Climbs.{GoingAt}
use Rattle.question.specs.OperatorNumber.{binary_number}
use Rattle.ty.specs.Name.{id_number}
use Rattle.operators.proofs.method.climb.Given as goal

abbrev pub invariant-loop-at : goal.invariant-loop-at
invariant-loop-at l = GoingAt l.table (binary_number l.op) l.class l.at

abbrev pub decreases-loop-at : goal.decreases-loop-at
decreases-loop-at l = height l.table (id_number l.at)
