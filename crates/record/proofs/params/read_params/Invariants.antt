use Prim.Native.Nat.{◌-◌, ◌≤◌}
use lib.ListN.{length}
use mathlib.Core.Path.{◌≡◌}
use Rattle.record.specs.Inside.Front.{run_of, run_params, params_read}
use Rattle.record.proofs.params.read_params.Given as goal

abbrev pub invariant-loop-n : goal.invariant-loop-n
invariant-loop-n l = (run_params (l.count - l._n) l.s (run_of l.c) ≡ params_read l.s) × (l.c.len ≤ length l.s) × (l.c.count ≤ l._n)
