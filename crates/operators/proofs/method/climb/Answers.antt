use Rattle.operators.proofs.Climbs.{at_method, at_below}
use Rattle.question.specs.OperatorNumber.{binary_number}
use Rattle.operators.proofs.method.climb.Goals as goal

pub returns-then-has_operator : goal.returns-then-has_operator
returns-then-has_operator c = rw (
  c.first_result.ensures,
  c.number.ensures,
  at_method c.args.table.now (binary_number c.args.op) c.args.class _ c.loop-at.invariant _ c.in-Some.is _ c.in_ok-mask.ensures _ c.has_operator.ensures c.if-has_operator.true,
)

pub loop-at-smaller : goal.loop-at-smaller
loop-at-smaller c =
    at_below c.args.table.now (binary_number c.args.op) c.args.class _ c.loop-at.invariant _ c.in-Some.is c.superclass_of-at.ensures.accepted _ c.superclass_of-at.ensures.superclass
