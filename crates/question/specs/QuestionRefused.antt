-- Refusals of a question. Document 01, "Refused, and by whose doing": 8 over 16,384 bytes, malformed, cut, or bytes behind the tree; 9 a 65th node;
-- 10 undefined id; 11 leaf type without end in 192 bytes. Lengths before contents; then the first faulty node (header before nodes), lowest number within it.
use Rattle.std.specs.Prelude.{ℕ, zero, suc, ◌+◌, ltb, eqb, length, drop, Bool, ◌&&◌, ◌||◌, List, [], ◌∷◌}
use Rattle.question.specs.Header.{header_bytes, suspend_byte, header_of}
use Rattle.question.specs.Parse.{most_nodes}
use Rattle.question.specs.NodeRead.{node_at, own_bytes, children}
use Rattle.question.specs.declared.Names.{Names}
use Rattle.question.specs.NodeRead.{Bad, Leaf, Endless, Binary, Unary, Named, Member, Call, Method}
use Rattle.question.specs.NodeRead.{NodeRead}
use Rattle.ty.specs.Choose.{choose}
use Rattle.ty.specs.Name.{no_id, id_defined, all_defined}
use Rattle.ty.specs.Ids.{ids_in}
use Rattle.ty.specs.Read.{longest_type}

abbrev pub longest_question : ℕ
longest_question = 16384

abbrev pub defined : Names → ℕ → Bool
defined N id = id_defined id N.count

-- 65,535 is none in the header, and an undefined id in a node
abbrev pub none_or_defined : Names → ℕ → Bool
none_or_defined N id = eqb id no_id || defined N id

-- the header's number, 0 for none
unfoldable pub header_fault : Names → List ℕ → ℕ
header_fault N q =
    choose (ltb (length q) header_bytes || ltb 1 (suspend_byte q)) 8
    (choose (none_or_defined N (header_of q).current && none_or_defined N (header_of q).pkg) 0 10)

-- the ids of a node that stands at the front of s: a leaf's are those that are examined in its type
unfoldable pub node_ids : NodeRead → List ℕ → List ℕ
node_ids Bad s = []
node_ids (Leaf len top) s = ids_in (drop 1 s) longest_type
node_ids (Endless top) s = ids_in (drop 1 s) longest_type
node_ids (Binary op) s = []
node_ids (Unary op) s = []
node_ids (Named id) s = id ∷ []
node_ids (Member id) s = id ∷ []
node_ids (Call id n) s = id ∷ []
node_ids (Method id n) s = id ∷ []

-- a node's number where its ids are defined: 8 malformed or cut, 11 a leaf type without end, 0 none
unfoldable pub shape_fault : NodeRead → ℕ
shape_fault Bad = 8
shape_fault (Leaf len top) = 0
shape_fault (Endless top) = 11
shape_fault (Binary op) = 0
shape_fault (Unary op) = 0
shape_fault (Named id) = 0
shape_fault (Member id) = 0
shape_fault (Call id n) = 0
shape_fault (Method id n) = 0

-- the number of the node at a position, one of the first 64: 10 where not every id of it is defined, which is lower than 11
unfoldable pub node_fault : Names → List ℕ → ℕ → ℕ
node_fault N q at = choose (all_defined (node_ids (node_at q at) (drop at q)) N.count) (shape_fault (node_at q at)) 10

-- the number of a 65th node
unfoldable pub more_fault : NodeRead → ℕ
more_fault Bad = 8
more_fault (Leaf len top) = 9
more_fault (Endless top) = 9
more_fault (Binary op) = 9
more_fault (Unary op) = 9
more_fault (Named id) = 9
more_fault (Member id) = 9
more_fault (Call id n) = 9
more_fault (Method id n) = 9

-- the bytes end where the tree does
unfoldable pub end_fault : List ℕ → ℕ → ℕ
end_fault q at = choose (eqb at (length q)) 0 8

-- the nodes in byte order, from a position on: `pending` trees are still to come, and so many nodes may
unfoldable pub nodes_fault : Names → ℕ → List ℕ → ℕ → ℕ → ℕ
nodes_fault N zero q at zero = end_fault q at
nodes_fault N zero q at (suc pending) = more_fault (node_at q at)
nodes_fault N (suc left) q at zero = end_fault q at
nodes_fault N (suc left) q at (suc pending) =
    choose (eqb (node_fault N q at) 0)
    (nodes_fault N left q (at + own_bytes (node_at q at)) (pending + children (node_at q at)))
    (node_fault N q at)

-- the tree's number, which stands behind the header, and that of the bytes behind it
unfoldable pub tree_fault : Names → List ℕ → ℕ
tree_fault N q = nodes_fault N most_nodes q header_bytes 1

-- the question's number, 0 for none
unfoldable pub question_fault : Names → List ℕ → ℕ
question_fault N q =
    choose (ltb longest_question (length q)) 8
    (choose (eqb (header_fault N q) 0) (tree_fault N q) (header_fault N q))
