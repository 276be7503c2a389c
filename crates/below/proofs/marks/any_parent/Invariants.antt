use Rattle.std.proofs.Common.{◌≡◌, ◌<◌, ℕ, get_or}
use Rattle.below.specs.Inside.RecordParents.{NoParent}
use Rattle.record.specs.TableRefused.{table_fault}
use Rattle.symbol.specs.Lookup.{symbols_of}
use Rattle.below.proofs.marks.any_parent.Given as goal

-- no class so far has a parent
abbrev pub invariant-loop-class : goal.invariant-loop-class
invariant-loop-class l = (j : ℕ) → j < l.class-index → (table_fault l.table ≡ 0) × NoParent (symbols_of l.table) (get_or l.classes j 0)
