-- One step of a walk over the nodes of some trees, in byte order.
use Rattle.std.specs.Prelude.{ℕ, ◌+◌, ◌-◌, ◌≡◌, ◌≢◌, List, Option, Some, None, Result}
use Rattle.question.specs.Node.{read_of}
use Rattle.question.specs.NodeRead.{node_at, own_bytes, children}
use Rattle.question.specs.declared.node.Node.{Node}
use Rattle.question.specs.declared.node.NodeFault.{NodeFault}
use Rattle.question.specs.declared.node.Walk.{Walk}

-- what stands at w was read and v stands behind its own bytes, its children still to come; where no tree is to come nothing was read
abbrev pub WalkStep : List ℕ → Walk → Walk → Option (Result Node NodeFault) → Type 0
WalkStep q w v None = (w.pending ≡ 0) × (v ≡ w)
WalkStep q w v (Some read) =
    (w.pending ≢ 0) × (read_of read ≡ node_at q w.at) × (v.at ≡ w.at + own_bytes (node_at q w.at)) × (v.pending ≡ w.pending - 1 + children (node_at q w.at))
