use mathlib.Core.Path.{sym}
use Rattle.symbol.proofs.Subclasses.{at_first, at_end, at_met, at_up, at_below}
use Rattle.symbol.proofs.subclass.is_subclass.Goals as goal

pub loop-at-init : goal.loop-at-init
loop-at-init c = at_first c.args.table.now c.superclass_of-at.ensures.accepted _ _ _ c.superclass_of-at.ensures.superclass

pub returns-then-id-above : goal.returns-then-id-above
returns-then-id-above c = sym (at_met c.args.table.now c.superclass_of-at.ensures.accepted _ _ _ c.loop-at.invariant _ c.in-Some.is c.if-id-above.true)

pub loop-at-smaller : goal.loop-at-smaller
loop-at-smaller c = at_below c.args.table.now c.superclass_of-at.ensures.accepted _ _ _ c.loop-at.invariant _ c.in-Some.is _ c.superclass_of-at-in-Some.ensures.superclass

pub loop-at-preserved : goal.loop-at-preserved
loop-at-preserved c = at_up c.args.table.now c.superclass_of-at.ensures.accepted _ _ _ c.loop-at.invariant _ c.in-Some.is c.if-id-above.false _ c.superclass_of-at-in-Some.ensures.superclass

pub returns : goal.returns
returns c = sym (at_end c.args.table.now c.superclass_of-at.ensures.accepted _ _ _ c.loop-at.invariant c.in_default.is)
