use Rattle.overload.proofs.FunctionListWalk.{own_none, own_found, own_stands, own_less}
use Rattle.overload.proofs.calls.any_own.Goals as goal

pub returns : goal.returns
returns c = own_none _ c.bytes-bytes.ensures.clean _ _ _ c.loop-p.invariant _ c.found.ensures c.in_default.is

pub returns-then-not-is_builtin_function : goal.returns-then-not-is_builtin_function
returns-then-not-is_builtin_function c = own_found _ c.bytes-bytes.ensures.clean _ _ _ c.loop-p.invariant _ c.found.ensures _ c.in-Some.is _
    (rw c.bytes-bytes.ensures.bytes at c.is_builtin_function.ensures) c.if-not-is_builtin_function.true

pub next-c-requires : goal.next-c-requires
next-c-requires c = own_stands _ c.bytes-bytes.ensures.clean _ _ _ c.loop-p.invariant _ c.found.ensures _ c.in-Some.is

pub loop-p-smaller : goal.loop-p-smaller
loop-p-smaller c = own_less _ c.bytes-bytes.ensures.clean _ _ _ c.loop-p.invariant _ c.found.ensures _ c.in-Some.is _ c.next-c.ensures
