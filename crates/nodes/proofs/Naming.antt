-- What is no named argument gives no name.
use Rattle.std.proofs.Common.{ℕ, ◌≡◌, refl, None}
use Rattle.nodes.specs.Inside.Row.{name_read}
use Rattle.question.specs.declared.node.Node.TheVariants.{Leaf, Binary, Unary, Named, Member, Call, Method}
use Rattle.question.specs.declared.node.Node.{Node}
use Rattle.question.specs.declared.node.NodeFault.TheVariants.{Bad, Endless}
use Rattle.question.specs.declared.node.NodeFault.{NodeFault}
use Rattle.question.specs.Node.{node_read, fault_read}

pub other_name : (x : Node) → ((id : ℕ) → x ≡ Named id → ⊥) → None ≡ name_read (node_read x)
unfolding name_read
other_name (Leaf len top) h = refl
other_name (Binary op) h = refl
other_name (Unary op) h = refl
other_name (Named id) h = absurd (h id refl)
other_name (Member id) h = refl
other_name (Call id n) h = refl
other_name (Method id n) h = refl

pub fault_name : (f : NodeFault) → None ≡ name_read (fault_read f)
unfolding name_read
fault_name Bad = refl
fault_name (Endless top) = refl
