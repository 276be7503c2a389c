-- What was written so far is the hex of the bytes so far.
use Rattle.std.proofs.Common.{take}
use Rattle.console.specs.Inside.Wrote.{Wrote}
use Rattle.console.specs.Text.{hex_bytes}
use Rattle.console.proofs.print.Writer.put_type.Given as goal

abbrev pub invariant-loop-b : goal.invariant-loop-b
invariant-loop-b l = Wrote l.initial.self l.self (hex_bytes (take l.b-index l.ty))
