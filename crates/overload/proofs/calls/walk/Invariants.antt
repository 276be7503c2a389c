use Rattle.overload.proofs.FunctionListWalk.{left_of, Walking}
use Rattle.std.proofs.Common.{length}
use Rattle.scoring.specs.Inside.Args.{args_in}
use Rattle.symbol.specs.Inside.FunctionCursor.{found_here}
use Rattle.ty.specs.Name.{id_number}
use Rattle.overload.proofs.calls.walk.Given as goal

abbrev pub invariant-loop-p : goal.invariant-loop-p
invariant-loop-p g l = Walking l.above (id_number l.fn.owner) l.id l.own (length l.args) (args_in l.slots l.args) l.initial.reports l.reports l.c l.w

abbrev pub decreases-loop-p : goal.decreases-loop-p
decreases-loop-p g l = left_of l.above (found_here l.c)
