-- The loop's invariant: what is to be found is what is found from the walk on, in which at most 17 trees a node wait to be read.
use Prim.Native.Nat.{◌+◌, ◌-◌, ◌*◌, ◌≤◌}
use mathlib.Core.Path.{◌≡◌}
use Rattle.question.specs.QuestionRefused.{nodes_fault, tree_fault}
use Rattle.question.proofs.check_tree.Given as goal

abbrev pub invariant-loop-passed : goal.invariant-loop-passed
invariant-loop-passed l = (nodes_fault l.names (64 - l._passed) l.question l.walk.at l.walk.pending ≡ tree_fault l.names l.question)
    × (l.walk.pending ≤ 1 + 17 * l._passed)
