use Rattle.symbol.proofs.LookedUp.{no_super, super_here}
use Rattle.symbol.proofs.lookups.superclass_of.Goals as goal

pub returns-in_err-p-clause-superclass : goal.returns-in_err-p-clause-superclass
returns-in_err-p-clause-superclass c = cc (c.from_residual.ensures, no_super c.args.table.now c.args.class 0 c.in_err-p.ensures.records)

pub returns-clause-superclass : goal.returns-clause-superclass
returns-clause-superclass c = cc (super_here c.args.table.now c.args.class 0 c.in_ok-p.p c.in_ok-p.ensures.records)
