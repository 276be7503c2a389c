use mathlib.Core.Path.{◌≡◌}
use Rattle.record.specs.Inside.Front.{good_part}
use Rattle.record.proofs.front.good_part.Given as goal

abbrev pub invariant-loop-i : goal.invariant-loop-i
invariant-loop-i l = l.good ≡ good_part l.i l.from l.part l.n
