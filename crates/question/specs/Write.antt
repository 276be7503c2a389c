-- A question's bytes from its header and its tree: the inverse of reading. Document 01, "Table and question": header, then one tree, parent first, each node by
-- its kind; "Types as bytes": numbers are low byte first.
use Rattle.std.specs.Prelude.{ℕ, ◌/◌, ◌%◌, Bool, true, false, List, [], ◌∷◌, ◌++◌}
use Rattle.question.specs.Tree.{Node, Row, leaf, binary, unary, named, member, call, method, nil, cons, count}
use Rattle.question.specs.declared.Header.{Header}

-- a tree's bytes: a node's kind, its type, operator or id, its count, and then its children in order
unfoldable mutual
  pub write_tree : Node → List ℕ
  write_tree (leaf t) = 0 ∷ t
  write_tree (binary op l r) = 1 ∷ op ∷ (write_tree l ++ write_tree r)
  write_tree (unary op x) = 2 ∷ op ∷ write_tree x
  write_tree (named id x) = 3 ∷ id % 256 ∷ id / 256 ∷ write_tree x
  write_tree (member id x) = 4 ∷ id % 256 ∷ id / 256 ∷ write_tree x
  write_tree (call id r) = 5 ∷ id % 256 ∷ id / 256 ∷ count r ∷ write_row r
  write_tree (method id x r) = 6 ∷ id % 256 ∷ id / 256 ∷ count r ∷ (write_tree x ++ write_row r)

  pub write_row : Row → List ℕ
  write_row nil = []
  write_row (cons x r) = write_tree x ++ write_row r

-- "in-suspend byte 0 or 1"
unfoldable pub write_suspend : Bool → ℕ
write_suspend false = 0
write_suspend true = 1

-- a header's bytes: current type, package, in-suspend
unfoldable pub write_header : Header → List ℕ
write_header h = h.current % 256 ∷ h.current / 256 ∷ h.pkg % 256 ∷ h.pkg / 256 ∷ write_suspend h.suspend ∷ []

-- the question
unfoldable pub write_question : Header → Node → List ℕ
write_question h x = write_header h ++ write_tree x
