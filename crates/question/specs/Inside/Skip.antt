-- Past the nodes of `pending` trees, at most so many, none of them judged. Document 01: the arguments of a method call that stay unvisited.
use Rattle.std.specs.Prelude.{ℕ, zero, suc, ◌+◌, List}
use Rattle.question.specs.Parse.{most_nodes}
use Rattle.question.specs.NodeRead.{node_at, own_bytes, children}
use Rattle.question.specs.declared.node.Skipped.{Skipped}

-- `nodes` were passed before
unfoldable pub skip_from : ℕ → List ℕ → ℕ → ℕ → ℕ → Skipped
skip_from zero q at nodes pending = record { at = at; nodes = nodes }
skip_from (suc left) q at nodes zero = record { at = at; nodes = nodes }
skip_from (suc left) q at nodes (suc pending) =
    skip_from left q (at + own_bytes (node_at q at)) (suc nodes) (pending + children (node_at q at))

unfoldable pub skip_at : List ℕ → ℕ → ℕ → Skipped
skip_at q at pending = skip_from most_nodes q at 0 pending
