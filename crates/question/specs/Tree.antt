-- The question's tree. Document 01, "Table and question": one tree, parent first, its nodes numbered from 0 in byte order.
use Rattle.std.specs.Prelude.{ℕ, suc, ◌+◌, ◌≤◌, length}
use Rattle.std.proofs.Math.Option.{Option, none, some}
use Rattle.ty.specs.Bytes.{Ty}
use Rattle.ty.specs.Read.{longest_type}

-- node kinds 0 to 6: leaf, binary, unary, named argument, member, call, method call (object first)
mutual
  pub data Node : Type 0 where
    leaf : Ty → Node
    binary : ℕ → Node → Node → Node
    unary : ℕ → Node → Node
    named : ℕ → Node → Node
    member : ℕ → Node → Node
    call : ℕ → Row → Node
    method : ℕ → Node → Row → Node

  -- the arguments of a call
  pub data Row : Type 0 where
    nil : Row
    cons : Node → Row → Row

-- the number behind a tree whose root has number n
unfoldable mutual
  pub number_after : Node → ℕ → ℕ
  number_after (leaf t) n = suc n
  number_after (binary op l r) n = number_after r (number_after l (suc n))
  number_after (unary op x) n = number_after x (suc n)
  number_after (named id x) n = number_after x (suc n)
  number_after (member id x) n = number_after x (suc n)
  number_after (call id r) n = number_after_row r (suc n)
  number_after (method id x r) n = number_after_row r (number_after x (suc n))

  pub number_after_row : Row → ℕ → ℕ
  number_after_row nil n = n
  number_after_row (cons x r) n = number_after_row r (number_after x n)

-- how many nodes a tree has
unfoldable mutual
  pub size : Node → ℕ
  size (leaf t) = 1
  size (binary op l r) = suc (size l + size r)
  size (unary op x) = suc (size x)
  size (named id x) = suc (size x)
  size (member id x) = suc (size x)
  size (call id r) = suc (sizes r)
  size (method id x r) = suc (size x + sizes r)

  pub sizes : Row → ℕ
  sizes nil = 0
  sizes (cons x r) = size x + sizes r

-- how many arguments a row has
unfoldable pub count : Row → ℕ
count nil = 0
count (cons x r) = suc (count r)

-- the name that a node gives to the argument that it is
unfoldable pub argument_name : Node → Option ℕ
argument_name (leaf t) = none
argument_name (binary op l r) = none
argument_name (unary op x) = none
argument_name (named id x) = some id
argument_name (member id x) = none
argument_name (call id r) = none
argument_name (method id x r) = none

-- how many bytes a tree takes: a node's kind, its operator, id or type, its count, and its children
unfoldable mutual
  pub bytes : Node → ℕ
  bytes (leaf t) = 1 + length t
  bytes (binary op l r) = 2 + bytes l + bytes r
  bytes (unary op x) = 2 + bytes x
  bytes (named id x) = 3 + bytes x
  bytes (member id x) = 3 + bytes x
  bytes (call id r) = 4 + bytess r
  bytes (method id x r) = 4 + bytes x + bytess r

  pub bytess : Row → ℕ
  bytess nil = 0
  bytess (cons x r) = bytes x + bytess r

-- every leaf's type has at most 192 bytes
unfoldable mutual
  pub LeavesFit : Node → Type 0
  LeavesFit (leaf t) = length t ≤ longest_type
  LeavesFit (binary op l r) = LeavesFit l × LeavesFit r
  LeavesFit (unary op x) = LeavesFit x
  LeavesFit (named id x) = LeavesFit x
  LeavesFit (member id x) = LeavesFit x
  LeavesFit (call id r) = RowFits r
  LeavesFit (method id x r) = LeavesFit x × RowFits r

  pub RowFits : Row → Type 0
  RowFits nil = Unit {0}
  RowFits (cons x r) = LeavesFit x × RowFits r
