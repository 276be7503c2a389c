-- A legal tree, under the names that are defined: what an accepted question holds. Document 01, "Table and question": a leaf's type, operators 0 to 22 and
-- 0 to 6, a count to 16; "Refused, and by whose doing": no undefined id, no leaf type without end in 192 bytes.
use Rattle.std.specs.Prelude.{ℕ, ◌≤◌, length, Bool, true, ◌≡◌}
use Rattle.question.specs.NodeRead.{last_binary, last_unary, most_arguments}
use Rattle.question.specs.QuestionRefused.{defined}
use Rattle.question.specs.Tree.{Node, Row, leaf, binary, unary, named, member, call, method, nil, cons, count}
use Rattle.question.specs.declared.Names.{Names}
use Rattle.ty.specs.Bytes.{Ty}
use Rattle.ty.specs.Read.{read_type, longest_type, whole_read}

-- the bytes are one type of at most 192 bytes; top is the highest id in it
pub record LeafLegal (N : Names) (t : Ty) : Type 0 where
  pub top : ℕ
  pub error : Bool
  pub whole : read_type t longest_type ≡ whole_read (length t) top error
  pub known : defined N top ≡ true

unfoldable mutual
  pub Legal : Names → Node → Type 0
  Legal N (leaf t) = LeafLegal N t
  Legal N (binary op l r) = Legal N l × Legal N r × (op ≤ last_binary)
  Legal N (unary op x) = Legal N x × (op ≤ last_unary)
  Legal N (named id x) = (defined N id ≡ true) × Legal N x
  Legal N (member id x) = (defined N id ≡ true) × Legal N x
  Legal N (call id r) = (defined N id ≡ true) × RowLegal N r × (count r ≤ most_arguments)
  Legal N (method id x r) = (defined N id ≡ true) × Legal N x × RowLegal N r × (count r ≤ most_arguments)

  pub RowLegal : Names → Row → Type 0
  RowLegal N nil = Unit {0}
  RowLegal N (cons x r) = Legal N x × RowLegal N r
