-- Reading one node's own bytes, without its children. Document 01, "Table and question": 0 leaf, a type; 1 binary, operator byte in `BinOp` order 0 to 22;
-- 2 unary, `UnOp` order 0 to 6; 3 named argument, id; 4 member, id; 5 call, id and count to 16; 6 method call, id and count, object first.
use Rattle.std.specs.Prelude.{Result, Ok, Err, ℕ, suc, ◌+◌, leb, eqb, length, get_or, drop, ◌&&◌, List}
use Rattle.ty.specs.Bytes.{id_at}
use Rattle.ty.specs.Choose.{choose}
use Rattle.ty.specs.Kind.{no_kind}
use Rattle.ty.specs.Read.{read_type, longest_type}
use Rattle.ty.specs.declared.read.TypeFault.TheVariants.{Cut, Malformed, Endless as Unended}
use Rattle.ty.specs.declared.read.TypeFault.{TypeFault}
use Rattle.ty.specs.declared.read.TypeRead.{TypeRead}

-- what stands at a position: a node's own bytes, without its children
pub data NodeRead : Type 0 where
  -- no node: malformed, or cut
  Bad : NodeRead
  -- a type of so many bytes stands behind the kind; the second is the highest id in it, 0 for none
  Leaf : ℕ → ℕ → NodeRead
  -- a leaf's type without end, and the highest id that was examined
  Endless : ℕ → NodeRead
  Binary : ℕ → NodeRead
  Unary : ℕ → NodeRead
  Named : ℕ → NodeRead
  Member : ℕ → NodeRead
  Call : ℕ → ℕ → NodeRead
  -- the object stands before the arguments, and the count leaves it out
  Method : ℕ → ℕ → NodeRead

-- the last operators of `BinOp` and of `UnOp`, and the most arguments of a call
abbrev pub last_binary : ℕ
last_binary = 22

abbrev pub last_unary : ℕ
last_unary = 6

abbrev pub most_arguments : ℕ
most_arguments = 16

-- a leaf, by what reading its type finds; top, the highest id examined, is for the code (the ids themselves: `node_ids`)
unfoldable pub leaf_of : Result TypeRead TypeFault → NodeRead
leaf_of (Ok r) = Leaf r.len r.top
leaf_of (Err Cut) = Bad
leaf_of (Err Malformed) = Bad
leaf_of (Err (Unended top error)) = Endless top

-- a node of kind k, not a leaf, of which so many bytes are there: op is its second byte, id its second and third, n its fourth
unfoldable pub node_of : ℕ → ℕ → ℕ → ℕ → ℕ → NodeRead
node_of k there op id n =
    choose (eqb k 1 && (leb 2 there && leb op last_binary)) (Binary op)
    (choose (eqb k 2 && (leb 2 there && leb op last_unary)) (Unary op)
    (choose (eqb k 3 && leb 3 there) (Named id)
    (choose (eqb k 4 && leb 3 there) (Member id)
    (choose (eqb k 5 && (leb 4 there && leb n most_arguments)) (Call id n)
    (choose (eqb k 6 && (leb 4 there && leb n most_arguments)) (Method id n)
    Bad)))))

-- the node at the front of some bytes
unfoldable pub node_in : List ℕ → NodeRead
node_in s =
    choose (eqb (get_or s 0 no_kind) 0) (leaf_of (read_type (drop 1 s) longest_type))
    (node_of (get_or s 0 no_kind) (length s) (get_or s 1 0) (id_at s 1) (get_or s 3 0))

-- the node at a position
unfoldable pub node_at : List ℕ → ℕ → NodeRead
node_at q at = node_in (drop at q)

-- how many bytes of its own a node has
unfoldable pub own_bytes : NodeRead → ℕ
own_bytes Bad = 0
own_bytes (Leaf len top) = len + 1
own_bytes (Endless top) = 0
own_bytes (Binary op) = 2
own_bytes (Unary op) = 2
own_bytes (Named id) = 3
own_bytes (Member id) = 3
own_bytes (Call id n) = 4
own_bytes (Method id n) = 4

-- how many children it has
unfoldable pub children : NodeRead → ℕ
children Bad = 0
children (Leaf len top) = 0
children (Endless top) = 0
children (Binary op) = 2
children (Unary op) = 1
children (Named id) = 1
children (Member id) = 1
children (Call id n) = n
children (Method id n) = suc n
