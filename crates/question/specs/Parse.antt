-- The tree of a question. It is read as a row of trees: each node takes its children off the front of the row that stands behind it.
use Rattle.std.specs.Prelude.{ℕ, zero, suc, ◌+◌, take, drop, List, []}
use Rattle.question.specs.Header.{header_bytes}
use Rattle.question.specs.NodeRead.{node_at, own_bytes, children}
use Rattle.question.specs.Tree.{Node, Row, leaf, binary, unary, named, member, call, method, nil, cons}
use Rattle.question.specs.NodeRead.{Bad, Leaf, Endless, Binary, Unary, Named, Member, Call, Method}
use Rattle.question.specs.NodeRead.{NodeRead}

-- document 01: at most 64 nodes
abbrev pub most_nodes : ℕ
most_nodes = 64

-- a row's first tree, a leaf without bytes where there is none
unfoldable pub first : Row → Node
first nil = leaf []
first (cons x r) = x

unfoldable pub rest : Row → Row
rest nil = nil
rest (cons x r) = r

-- a row's first n trees, and those behind them
unfoldable pub take_row : ℕ → Row → Row
take_row zero r = nil
take_row (suc n) nil = nil
take_row (suc n) (cons x r) = cons x (take_row n r)

unfoldable pub drop_row : ℕ → Row → Row
drop_row zero r = r
drop_row (suc n) nil = nil
drop_row (suc n) (cons x r) = drop_row n r

-- the node at a position, before the row r that stands behind its own bytes
unfoldable pub onto : NodeRead → List ℕ → ℕ → Row → Row
onto Bad q at r = nil
onto (Leaf len top) q at r = cons (leaf (take len (drop (at + 1) q))) r
onto (Endless top) q at r = nil
onto (Binary op) q at r = cons (binary op (first r) (first (rest r))) (rest (rest r))
onto (Unary op) q at r = cons (unary op (first r)) (rest r)
onto (Named id) q at r = cons (named id (first r)) (rest r)
onto (Member id) q at r = cons (member id (first r)) (rest r)
onto (Call id n) q at r = cons (call id (take_row n r)) (drop_row n r)
onto (Method id n) q at r = cons (method id (first r) (take_row n (rest r))) (drop_row n (rest r))

-- the row of `pending` trees from a position on, of at most so many nodes
unfoldable pub row_at : ℕ → List ℕ → ℕ → ℕ → Row
row_at zero q at pending = nil
row_at (suc left) q at zero = nil
row_at (suc left) q at (suc pending) =
    onto (node_at q at) q at (row_at left q (at + own_bytes (node_at q at)) (pending + children (node_at q at)))

-- the question's tree, which stands behind the header
unfoldable pub tree_of : List ℕ → Node
tree_of q = first (row_at most_nodes q header_bytes 1)
