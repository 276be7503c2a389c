-- The names that a tree asks a table for: those of its members, calls and method calls, and the operator methods. A named argument's name is compared with
-- parameters' alone.
use Rattle.std.specs.Prelude.{ℕ, ◌≤◌, Bool, true, ◌≡◌}
use Rattle.operators.specs.Operator.{ge_op}
use Rattle.operators.specs.OperatorMethod.{method_id}
use Rattle.question.specs.Tree.{Node, leaf, binary, unary, named, member, call, method, Row, nil, cons}

module _ (asked : ℕ → Bool) where
  unfoldable mutual
    -- a test holds of every name that the tree asks for
    pub Asks : Node → Type 0
    Asks (leaf t) = Unit {0}
    Asks (binary op l r) = Asks l × Asks r
    Asks (unary op x) = Asks x
    Asks (named id x) = Asks x
    Asks (member id x) = (asked id ≡ true) × Asks x
    Asks (call id r) = (asked id ≡ true) × RowAsks r
    Asks (method id x r) = (asked id ≡ true) × Asks x × RowAsks r

    pub RowAsks : Row → Type 0
    RowAsks nil = Unit {0}
    RowAsks (cons x r) = Asks x × RowAsks r

  -- it holds of the names of the operator methods, plus to ge
  abbrev pub AsksOperators : Type 0
  AsksOperators = (op : ℕ) → op ≤ ge_op → asked (method_id op) ≡ true
