use lib.ListN.{length}
use mathlib.Core.Path.{◌≡◌}
use Rattle.written.proofs.CopyLoops.{filled}
use Rattle.written.proofs.copy_in.Given as goal

abbrev pub invariant-loop-i : goal.invariant-loop-i
invariant-loop-i l = (length l.out ≡ length l.initial.out) × (l.out ≡ filled l.initial.out l.to l.s l.i)
