use native.Mathlib.Omega.{arith}
use Rattle.overload.proofs.FunctionListWalk.{walk_room, walk_place, walk_stands, walk_less}
use Rattle.scoring.proofs.ParamsAndArgsLeft.{args_length}
use Rattle.overload.proofs.calls.walk.Goals as goal

pub turn-w-requires : goal.turn-w-requires
turn-w-requires g c = let fits = c.well_formed in (
  omega arith,
  (
    walk_place _ (rw c.table-table.ensures at c.bytes-bytes.ensures.clean) _ _ _ _ _ _ _ _ _ c.loop-p.invariant _ c.found.ensures _ c.in-Some.is,
    rw (c.bytes-bytes.ensures.bytes, c.table-table.ensures) at c.read_function-f.ensures,
    walk_room _ (rw c.table-table.ensures at c.bytes-bytes.ensures.clean) _ _ _ _ _ _ _ _ _ c.loop-p.invariant
        (omega (arith, args_length c.args.slots.now c.args.args.now, c.requires.0)) c.requires.1,
  ),
)

pub next-c-requires : goal.next-c-requires
next-c-requires g c =
    rw c.table-table.ensures (walk_stands _ (rw c.table-table.ensures at c.bytes-bytes.ensures.clean) _ _ _ _ _ _ _ _ _ c.loop-p.invariant _ c.found.ensures _ c.in-Some.is)

pub loop-p-smaller : goal.loop-p-smaller
loop-p-smaller g c =
    walk_less _ (rw c.table-table.ensures at c.bytes-bytes.ensures.clean) _ _ _ _ _ _ _ _ _ c.loop-p.invariant _ c.found.ensures _ c.in-Some.is _
    (rw c.table-table.ensures at c.next-c.ensures)

pub returns-clause-room : goal.returns-clause-room
returns-clause-room g c = walk_room _ (rw c.table-table.ensures at c.bytes-bytes.ensures.clean) _ _ _ _ _ _ _ _ _ c.loop-p.invariant
    (omega (arith, args_length c.args.slots.now c.args.args.now, c.requires.0)) c.requires.1
