-- A row that stands, its first tree opened: the root's own bytes are read, and its children stand behind them, before the rest of the row.
use Prim.Native.Nat.{ℕ, suc, ◌+◌}
use lib.ListN.{length}
use mathlib.Core.Bool.{Bool, true}
use mathlib.Core.List.{List}
use mathlib.Core.Path.{◌≡◌, refl, sym, ap, ◌∙◌}
use native.Mathlib.Omega.{arith}
use Rattle.question.proofs.NodeReading.{leaf-whole}
use Rattle.question.proofs.Trees.{joined, joined-count, joined_bytes, joined_sizes, take-joined, drop-joined}
use Rattle.question.specs.Legal.{Legal, RowLegal}
use Rattle.question.specs.Inside.Stands.{LeafStands, TreeStands, RowStands}
use Rattle.question.specs.Inside.Top.{id_fault, read_fault}
use Rattle.question.specs.Parse.{first, rest, take_row, drop_row, onto}
use Rattle.question.specs.NodeRead.{node_at, own_bytes, children}
use Rattle.question.specs.QuestionRefused.{defined}
use Rattle.question.specs.Tree.{Node, Row, leaf, binary, unary, named, member, call, method, nil, cons, size, sizes, count, bytes, bytess}
use Rattle.question.specs.declared.Names.{Names}
use Rattle.question.specs.NodeRead.{Leaf, Binary, Unary, Named, Member, Call, Method}
use Rattle.question.specs.NodeRead.{NodeRead}
use Rattle.ty.proofs.Reading.{whole_parts}
use Rattle.ty.specs.Choose.{choose}
use Rattle.ty.specs.Read.{read_type, longest_type, whole_read}

-- the children of a node
unfoldable pub children_of : Node → Row
children_of (leaf t) = nil
children_of (binary op l r) = cons l (cons r nil)
children_of (unary op x) = cons x nil
children_of (named id x) = cons x nil
children_of (member id x) = cons x nil
children_of (call id r) = r
children_of (method id x r) = cons x r

-- the row that stands behind t's own bytes
abbrev pub inside : Node → Row → Row
inside t r = joined (children_of t) r

pub record Opened (q : List ℕ) (at : ℕ) (t : Node) (r : Row) : Type 0 where
  pub root : NodeRead
  pub read : node_at q at ≡ root
  pub stands : RowStands q (inside t r) (at + own_bytes root)
  pub counted : count r + children root ≡ count (inside t r)
  pub ends : at + own_bytes root + bytess (inside t r) ≡ at + (bytes t + bytess r)
  pub sized : suc (sizes (inside t r)) ≡ size t + sizes r
  pub built : onto root q at (inside t r) ≡ cons t r
  pub fine : (N : Names) → Legal N t → RowLegal N r → (read_fault N root ≡ 0) × RowLegal N (inside t r)

pub joined_ats : (q : List ℕ) (r s : Row) (at m : ℕ) → m ≡ at + bytess r → RowStands q r at → RowStands q s m → RowStands q (joined r s) at
unfolding RowStands joined bytess
joined_ats q nil s at m e a b = let f : at ≡ m = omega arith in rw f b
joined_ats q (cons x r) s at m e a b = (a.0, joined_ats q r s (at + bytes x) m (omega arith) a.1 b)

joined_legal : (N : Names) (r s : Row) → RowLegal N r → RowLegal N s → RowLegal N (joined r s)
unfolding RowLegal joined
joined_legal N nil s a b = b
joined_legal N (cons x r) s a b = (a.0, joined_legal N r s a.1 b)

known : (N : Names) (id : ℕ) → defined N id ≡ true → id_fault N id ≡ 0
unfolding id_fault choose
known N id e = rw e

-- the highest id of a leaf, as its position and its own bytes give it
same_top : (q t : List ℕ) (at top : ℕ) (error : Bool) → (s : LeafStands q t at) → read_type t longest_type ≡ whole_read (length t) top error → top ≡ s.top
same_top q t at top error s e =
    let (error₁, r) = leaf-whole q at (length t) s.top s.read in
    let f : read_type t longest_type ≡ whole_read (length t) s.top error₁ = rw s.part at r in
    (whole_parts (length t) (length t) top s.top error error₁ (sym e ∙ f)).1

method_path : (id : ℕ) (x : Node) (c c₁ r r₁ : Row) → c ≡ c₁ → r ≡ r₁ → cons (method id x c) r ≡ cons (method id x c₁) r₁
method_path id x c c₁ r r₁ e f = cc

pub opened : (q : List ℕ) (at : ℕ) (t : Node) (r : Row) → TreeStands q t at → RowStands q r (at + bytes t) → Opened q at t r
unfolding TreeStands RowStands size sizes count bytes bytess joined children_of own_bytes children onto first rest take_row drop_row read_fault Legal RowLegal
opened q at (leaf t) r s ss =
    let a : at + (1 + length t) ≡ at + (length t + 1) = omega arith in
    record {
      root = Leaf (length t) s.top;
      read = s.read;
      stands = rw a at ss;
      counted = omega arith;
      ends = omega arith;
      sized = omega arith;
      built = ap (λ (u : List ℕ). cons (leaf u) r) s.part;
      fine = λ N g gs. (known N s.top (ap (defined N) (sym (same_top q t at g.top g.error s g.whole)) ∙ g.known), gs);
    }
opened q at (binary op l x) r s ss =
    let a : at + (2 + bytes l + bytes x) ≡ at + 2 + bytes l + bytes x = omega arith in
    record {
      root = Binary op;
      read = s.0;
      stands = (s.1, (s.2, rw a at ss));
      counted = omega arith;
      ends = omega arith;
      sized = omega arith;
      built = refl;
      fine = λ N g gs. (refl, (g.0, (g.1, gs)));
    }
opened q at (unary op x) r s ss =
    let a : at + (2 + bytes x) ≡ at + 2 + bytes x = omega arith in
    record {
      root = Unary op;
      read = s.0;
      stands = (s.1, rw a at ss);
      counted = omega arith;
      ends = omega arith;
      sized = omega arith;
      built = refl;
      fine = λ N g gs. (refl, (g.0, gs));
    }
opened q at (named id x) r s ss =
    let a : at + (3 + bytes x) ≡ at + 3 + bytes x = omega arith in
    record {
      root = Named id;
      read = s.0;
      stands = (s.1, rw a at ss);
      counted = omega arith;
      ends = omega arith;
      sized = omega arith;
      built = refl;
      fine = λ N g gs. (known N id g.0, (g.1, gs));
    }
opened q at (member id x) r s ss =
    let a : at + (3 + bytes x) ≡ at + 3 + bytes x = omega arith in
    record {
      root = Member id;
      read = s.0;
      stands = (s.1, rw a at ss);
      counted = omega arith;
      ends = omega arith;
      sized = omega arith;
      built = refl;
      fine = λ N g gs. (known N id g.0, (g.1, gs));
    }
opened q at (call id c) r s ss =
    record {
      root = Call id (count c);
      read = s.0;
      stands = joined_ats q c r (at + 4) (at + (4 + bytess c)) (omega arith) s.1 ss;
      counted = omega (arith, joined-count r c);
      ends = omega (arith, joined_bytes r c);
      sized = omega (arith, joined_sizes r c);
      built = rw (take-joined, drop-joined);
      fine = λ N g gs. (known N id g.0, joined_legal N c r g.1 gs);
    }
opened q at (method id x c) r s ss =
    record {
      root = Method id (count c);
      read = s.0;
      stands = (s.1, joined_ats q c r (at + 4 + bytes x) (at + (4 + bytes x + bytess c)) (omega arith) s.2 ss);
      counted = omega (arith, joined-count r c);
      ends = omega (arith, joined_bytes r c);
      sized = omega (arith, joined_sizes r c);
      built = method_path id x _ c _ r (take-joined r c) (drop-joined r c);
      fine = λ N g gs. (known N id g.0, (g.1, joined_legal N c r g.2 gs));
    }
