use Prim.Native.Nat.{◌-◌}
use lib.ListN.{length}
use Rattle.symbol.specs.Inside.IndexMade.{Making}
use Rattle.symbol.proofs.LateMakes.{Noting}
use Rattle.symbol.proofs.Passes.{Going}
use Rattle.symbol.proofs.checks.check_records.Given as goal

abbrev pub invariant-loop-w : goal.invariant-loop-w
invariant-loop-w l = Going l.t l.x l.late l.w l.kind l.looked × Making l.t l.fn.x l.x l.w.here × Noting l.t l.fn.late l.late l.w.here l.looked

abbrev pub decreases-loop-w : goal.decreases-loop-w
decreases-loop-w l = length l.t - l.w.here.at
