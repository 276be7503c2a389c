-- A tree stands at a position of the question: its root is read there, and its children stand behind it, one behind the other.
use Rattle.std.specs.Prelude.{ℕ, ◌+◌, length, take, drop, List, ◌≡◌}
use Rattle.question.specs.NodeRead.{node_at}
use Rattle.question.specs.Tree.{Node, Row, leaf, binary, unary, named, member, call, method, nil, cons, bytes, count}
use Rattle.question.specs.NodeRead.{Leaf, Binary, Unary, Named, Member, Call, Method}
use Rattle.ty.specs.Bytes.{Ty}

-- a leaf's type is the bytes behind its kind
pub record LeafStands (q : List ℕ) (t : Ty) (at : ℕ) : Type 0 where
  pub top : ℕ
  pub read : node_at q at ≡ Leaf (length t) top
  pub part : take (length t) (drop (at + 1) q) ≡ t

unfoldable mutual
  pub TreeStands : List ℕ → Node → ℕ → Type 0
  TreeStands q (leaf t) at = LeafStands q t at
  TreeStands q (binary op l r) at = (node_at q at ≡ Binary op) × TreeStands q l (at + 2) × TreeStands q r (at + 2 + bytes l)
  TreeStands q (unary op x) at = (node_at q at ≡ Unary op) × TreeStands q x (at + 2)
  TreeStands q (named id x) at = (node_at q at ≡ Named id) × TreeStands q x (at + 3)
  TreeStands q (member id x) at = (node_at q at ≡ Member id) × TreeStands q x (at + 3)
  TreeStands q (call id r) at = (node_at q at ≡ Call id (count r)) × RowStands q r (at + 4)
  TreeStands q (method id x r) at = (node_at q at ≡ Method id (count r)) × TreeStands q x (at + 4) × RowStands q r (at + 4 + bytes x)

  pub RowStands : List ℕ → Row → ℕ → Type 0
  RowStands q nil at = Unit {0}
  RowStands q (cons x r) at = TreeStands q x at × RowStands q r (at + bytes x)
