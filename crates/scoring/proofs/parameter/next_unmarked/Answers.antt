use Rattle.std.proofs.Common.{rules, false}
use Rattle.scoring.proofs.ParamsReceived.{left_passed, received_here, received_none}
use Rattle.scoring.proofs.parameter.next_unmarked.Goals as goal

pub returns-then-not-marks-j : goal.returns-then-not-marks-j
returns-then-not-marks-j c = λ t. received_here t _ _ _ _ (c.loop-j.invariant.1 t) _ (search rules) (search rules) (search rules)

pub loop-j-preserved : goal.loop-j-preserved
loop-j-preserved c = (
  search rules,
  λ t. left_passed t _ _ _ _ (c.loop-j.invariant.1 t)
      (record { name = 0; default = false; vararg = false; part = record { start = 0; len = 0 } }) (search rules) (search rules) (search rules),
)

pub returns : goal.returns
returns c = λ t. received_none t _ _ _ _ (c.loop-j.invariant.1 t) (search rules)
