use Rattle.symbol.proofs.LookedUp.{no_package, package_here}
use Rattle.symbol.proofs.lookups.package_of.Goals as goal

pub returns-in_err-p : goal.returns-in_err-p
returns-in_err-p c = cc (c.from_residual.ensures, no_package c.args.table.now c.args.class 0 c.in_err-p.ensures.records)

pub returns : goal.returns
returns c = cc (package_here c.args.table.now c.args.class 0 c.in_ok-p.p c.in_ok-p.ensures.records)
