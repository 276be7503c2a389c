use Rattle.overload.proofs.FunctionListWalk.{OwnFrom, left_of}
use Rattle.symbol.specs.Inside.FunctionCursor.{found_here}
use Rattle.ty.specs.Name.{id_number}
use Rattle.overload.proofs.calls.any_own.Given as goal

abbrev pub invariant-loop-p : goal.invariant-loop-p
invariant-loop-p l = OwnFrom l.table (id_number l.fn.owner) l.id l.c

abbrev pub decreases-loop-p : goal.decreases-loop-p
decreases-loop-p l = left_of l.table (found_here l.c)
