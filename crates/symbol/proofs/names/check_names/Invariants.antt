use Prim.Native.Nat.{◌-◌}
use lib.ListN.{length}
use Rattle.symbol.specs.Inside.NamesChecked.{NamesPassed}
use Rattle.symbol.proofs.names.check_names.Given as goal

abbrev pub invariant-loop-x : goal.invariant-loop-x
invariant-loop-x l = NamesPassed l.t l.initial.x l.x l.w

abbrev pub decreases-loop-x : goal.decreases-loop-x
decreases-loop-x l = length l.t - l.w.here.at
