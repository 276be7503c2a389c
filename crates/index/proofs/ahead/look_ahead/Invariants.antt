use Prim.Native.Nat.{◌-◌}
use lib.ListN.{length}
use mathlib.Core.Path.{◌≡◌}
use Rattle.index.specs.Inside.Ahead.{marked_from}
use Rattle.record.specs.Inside.Walk.{CursorAt}
use Rattle.index.proofs.ahead.look_ahead.Given as goal

abbrev pub invariant-loop-c : goal.invariant-loop-c
invariant-loop-c l = (length l.late ≡ length l.initial.late) × CursorAt l.t l.c
    × (marked_from l.t l.c.at l.late ≡ marked_from l.t l.initial.c.at l.initial.late)

abbrev pub decreases-loop-c : goal.decreases-loop-c
decreases-loop-c l = length l.t - l.c.at
