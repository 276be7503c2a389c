use Rattle.std.proofs.Common.{rules}
use mathlib.Core.Path.{refl}
use native.Mathlib.Omega.{arith}
use Rattle.written.proofs.CopyLoops.{fill_zero, fill_byte, fill_all}
use Rattle.written.proofs.copy_in.Goals as goal

pub loop-i-init : goal.loop-i-init
loop-i-init c = (refl, fill_zero _ _ _)

pub loop-i-preserved : goal.loop-i-preserved
loop-i-preserved c = (search rules, fill_byte _ _ _ _ _ (search rules) c.loop-i.invariant.1)

pub returns : goal.returns
returns c = fill_all _ _ c.args.s.now c.loop-i.i _ (omega arith) c.loop-i.invariant.1
