-- The loop's invariant: what is to be passed is what is passed from the walk on, in which at most 17 trees a node wait to be passed.
use Prim.Native.Nat.{◌+◌, ◌*◌, ◌≤◌, ◌-◌}
use mathlib.Core.Path.{◌≡◌}
use Rattle.question.specs.Inside.Skip.{skip_from, skip_at}
use Rattle.question.proofs.node.skip.Given as goal

abbrev pub invariant-loop-nodes : goal.invariant-loop-nodes
invariant-loop-nodes l = (skip_from (64 - l.nodes) l.q l.walk.at l.nodes l.walk.pending ≡ skip_at l.q l.start l.trees)
    × (l.walk.pending ≤ l.trees + 17 * l.nodes)
