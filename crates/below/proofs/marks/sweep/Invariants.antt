use Rattle.std.proofs.Common.{◌≡◌, ◌≤◌, ℕ, length}
use Rattle.below.specs.Inside.Marks.{has_mark, swept}
use Rattle.symbol.specs.Inside.ClassRun.{class_at}
use Rattle.symbol.specs.Lookup.{symbols_of}
use Rattle.below.proofs.marks.sweep.Given as goal

-- what is left to sweep, from these marks, gives what the whole sweep does
abbrev pub invariant-loop-left : goal.invariant-loop-left
invariant-loop-left l =
    record {
      within : l.left ≤ l.i;
      long : length l.marks ≡ length l.initial.marks;
      bits : (j : ℕ) → swept (symbols_of l.records) (class_at l.records) l.left (has_mark l.marks j)
          ≡ swept (symbols_of l.records) (class_at l.records) l.i (has_mark l.initial.marks j);
    }

abbrev pub decreases-loop-left : goal.decreases-loop-left
decreases-loop-left l = l.left
