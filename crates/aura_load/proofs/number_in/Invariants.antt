-- The number is that of the digits so far before the bytes that follow.
use Rattle.std.proofs.Common.{◌≡◌, drop}
use Rattle.aura_load.specs.Argument.{number_from, number_in}
use Rattle.aura_load.proofs.number_in.Given as goal

abbrev pub invariant-loop-b : goal.invariant-loop-b
invariant-loop-b l = number_from l.n (drop l.b-index l.text) ≡ number_in l.text
