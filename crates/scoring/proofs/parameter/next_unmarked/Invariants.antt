use Rattle.std.specs.Prelude.{ℕ, List, ◌≤◌, ◌≡◌}
use Rattle.scoring.specs.Inside.Received.{left_in}
use Rattle.scoring.proofs.parameter.next_unmarked.Given as goal

abbrev pub invariant-loop-j : goal.invariant-loop-j
invariant-loop-j l = (l.from ≤ l.j) × ((t : List ℕ) → left_in t l.params l.marks l.j ≡ left_in t l.params l.marks l.from)
