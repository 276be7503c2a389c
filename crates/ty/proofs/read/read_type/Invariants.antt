-- The loop's invariant: what is to be found is what is found from `at` on, where at most 17 types a byte wait to be read. The measure is what is left
-- of the bytes that are examined.
use Prim.Native.Nat.{◌≤◌, ◌-◌, ◌+◌, ◌*◌}
use Rattle.ty.proofs.Reading.{Going}
use Rattle.ty.proofs.read.read_type.Given as goal

-- The loop's invariant: what is to be found is what is found from `at` on, where at most 17 types a byte wait to be read. The measure is what is left
-- of the bytes that are examined.
abbrev pub invariant-loop-pending : goal.invariant-loop-pending
invariant-loop-pending l =
    (l.at ≤ l.end) × (l.pending ≤ 17 * l.at + 1) × Going l.s l.limit l.end l.at l.pending l.top l.error

abbrev pub decreases-loop-pending : goal.decreases-loop-pending
decreases-loop-pending l = l.end - l.at + 1
