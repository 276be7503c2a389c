-- A node as the code has it, and as reading has it: where none was read there is a fault there, and a case of its own here.
use Rattle.std.specs.Prelude.{Result, Ok, Err}
use Rattle.question.specs.NodeRead.{NodeRead, Bad, Leaf, Endless, Binary, Unary, Named, Member, Call, Method}
use Rattle.question.specs.declared.node.Node.TheVariants.{Leaf as LeafNode, Binary as BinaryNode, Unary as UnaryNode, Named as NamedNode}
use Rattle.question.specs.declared.node.Node.TheVariants.{Member as MemberNode, Call as CallNode, Method as MethodNode}
use Rattle.question.specs.declared.node.Node.{Node}
use Rattle.question.specs.declared.node.NodeFault.TheVariants.{Bad as BadNode, Endless as EndlessNode}
use Rattle.question.specs.declared.node.NodeFault.{NodeFault}
use Rattle.ty.specs.declared.read.TypeFault.TheVariants.{Cut, Malformed, Endless as Unended}
use Rattle.ty.specs.declared.read.TypeFault.{TypeFault}

abbrev pub node_read : Node → NodeRead
node_read (LeafNode len top) = Leaf len top
node_read (BinaryNode op) = Binary op
node_read (UnaryNode op) = Unary op
node_read (NamedNode id) = Named id
node_read (MemberNode id) = Member id
node_read (CallNode id n) = Call id n
node_read (MethodNode id n) = Method id n

abbrev pub fault_read : NodeFault → NodeRead
fault_read BadNode = Bad
fault_read (EndlessNode top) = Endless top

-- why a leaf is no node, by why its type was not read
abbrev pub leaf_fault : TypeFault → NodeFault
leaf_fault Cut = BadNode
leaf_fault Malformed = BadNode
leaf_fault (Unended top error) = EndlessNode top

abbrev pub read_of : Result Node NodeFault → NodeRead
read_of (Ok node) = node_read node
read_of (Err fault) = fault_read fault
