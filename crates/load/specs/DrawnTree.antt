-- The tree that the draws give, and the state behind its last draw. Document 02, order 1: "One node left: leaf, kind by n = 12. Two: unary. More: n = 2, 0
-- unary, 1 binary. The operator is drawn next (7 or 23); for a binary with k nodes the left side has 1 plus a draw of n = k − 2, the right the rest; left is
-- written first."
use Rattle.std.specs.Prelude.{ℕ, zero, suc, ◌+◌, ◌-◌, ◌==◌, nat_le}
use Rattle.load.specs.Draw.{stepped, drawn}
use Rattle.question.specs.Tree.{Node, leaf, binary, unary}
use Rattle.ty.specs.Bytes.{plain_ty}
use Rattle.ty.specs.Choose.{choose}

pub record Drawn : Type 0 where
  pub tree : Node
  pub state : ℕ

-- "leaf, kind by n = 12": a type that is one of the kinds 0 to 11 alone
unfoldable pub drawn_leaf : ℕ → Drawn
drawn_leaf s = record { tree = leaf (plain_ty (drawn 12 s)); state = stepped s }

-- A unary of k nodes draws its operator, and then its child. Here and below `draw m t` is the tree of m nodes, fewer than k, that is drawn from state t.
unfoldable pub unary_over : ℕ → Drawn → Drawn
unary_over op x = record { tree = unary op x.tree; state = x.state }

unfoldable pub drawn_unary : (ℕ → ℕ → Drawn) → ℕ → ℕ → Drawn
drawn_unary draw k s = unary_over (drawn 7 s) (draw (k - 1) (stepped s))

-- "the left side has 1 plus a draw of n = k − 2"
unfoldable pub left_nodes : ℕ → ℕ → ℕ
left_nodes k s = 1 + drawn (k - 2) s

-- "the right the rest": it is drawn from the state behind the left side l
unfoldable pub binary_behind : ℕ → (ℕ → ℕ → Drawn) → ℕ → Drawn → Drawn
binary_behind op draw rest l = record { tree = binary op l.tree (draw rest l.state).tree; state = (draw rest l.state).state }

-- a binary of k nodes, itself among them, draws its operator, then its split, then the left side
unfoldable pub drawn_binary : (ℕ → ℕ → Drawn) → ℕ → ℕ → Drawn
drawn_binary draw k s =
    binary_behind (drawn 23 s) draw (k - 1 - left_nodes k (stepped s)) (draw (left_nodes k (stepped s)) (stepped (stepped s)))

-- "Two: unary. More: n = 2, 0 unary, 1 binary."
unfoldable pub drawn_inner : (ℕ → ℕ → Drawn) → ℕ → ℕ → Drawn
drawn_inner draw k s =
    choose (nat_le k 2) (drawn_unary draw k s)
    (choose (drawn 2 s == 1) (drawn_binary draw k (stepped s)) (drawn_unary draw k (stepped s)))

-- the tree of k nodes from a state on, by recursion on its levels, of which there are no more than nodes
unfoldable pub drawn_in : ℕ → ℕ → ℕ → Drawn
drawn_in zero k s = drawn_leaf s
drawn_in (suc levels) k s = choose (nat_le k 1) (drawn_leaf s) (drawn_inner (λ m t. drawn_in levels m t) k s)

unfoldable pub drawn_tree : ℕ → ℕ → Drawn
drawn_tree k s = drawn_in k k s
