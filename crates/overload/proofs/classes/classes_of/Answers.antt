use native.Mathlib.Omega.{arith}
use Rattle.overload.proofs.ClassesGathered.{gathered_none, gathered_more, gathered_all}
use Rattle.overload.proofs.classes.classes_of.Goals as goal

pub loop-a-init : goal.loop-a-init
loop-a-init g c = rw c.new-classes.ensures (gathered_none _ _)

pub gather-requires : goal.gather-requires
gather-requires g c = omega (arith, c.loop-a.invariant.few, c.loop-a-test.true, c.as_slice-a-items.ensures.fits)

pub loop-a-preserved : goal.loop-a-preserved
loop-a-preserved g c = let e = c.as_slice-a-items.ensures.value in
    gathered_more _ _ _ _ c.loop-a.invariant _ (rw e at c.loop-a-test.true) _ (rw e at c.type_of.ensures) _ c.gather.ensures

pub returns : goal.returns
returns g c = gathered_all _ _ _ _ c.loop-a.invariant (rw c.as_slice-a-items.ensures.value at c.loop-a-test.false)
