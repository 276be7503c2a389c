use Rattle.std.proofs.Common.{rules}
use Rattle.scoring.proofs.ParamsReceived.{marked_next, marked_done}
use Rattle.scoring.proofs.parameter.mark.Goals as goal

pub loop-j-preserved : goal.loop-j-preserved
loop-j-preserved c = marked_next _ _ _ _ _ c.loop-j.invariant _ (search rules) (search rules)

pub returns : goal.returns
returns c = marked_done _ _ _ _ _ c.loop-j.invariant (search rules)
