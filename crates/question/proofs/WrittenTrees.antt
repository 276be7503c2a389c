-- Reading what a legal tree writes gives the tree, and the question is accepted.
use Prim.Native.Nat.{ℕ, suc, ◌+◌, ◌*◌, ◌/◌, ◌%◌, ◌≤◌, ◌<◌}
use borrow.Author.Tests.{le-leb, lt-ltb}
use lib.ListN.{length, take, drop, length-append}
use lib.Seq.{drop-drop, drop_at, take_at}
use mathlib.Core.Bool.{Bool, true, false}
use mathlib.Core.List.{List, [], ◌∷◌, ◌++◌, append_assoc, append-nil}
use mathlib.Core.Path.{◌≡◌, refl, sym, ap, ◌∙◌}
use native.Mathlib.Omega.{arith}
use Rattle.question.proofs.Accepted.{HeaderFine, accepts, tree-found}
use Rattle.question.proofs.Plain.{plain-leaf}
use Rattle.question.specs.Header.{header_bytes, header_of}
use Rattle.question.specs.Inside.Stands.{TreeStands, RowStands}
use Rattle.question.specs.Legal.{LeafLegal, Legal, RowLegal}
use Rattle.question.specs.NodeRead.{last_binary, last_unary, most_arguments, leaf_of, node_of, node_in, node_at}
use Rattle.question.specs.Parse.{most_nodes}
use Rattle.question.specs.QuestionRefused.{none_or_defined, question_fault}
use Rattle.question.specs.ReadBack.{ReadsBack}
use Rattle.question.specs.Tree.{Node, Row, leaf, binary, unary, named, member, call, method, nil, cons, size, sizes, bytes, bytess, count}
use Rattle.question.specs.Write.{write_tree, write_row, write_suspend, write_header, write_question}
use Rattle.question.specs.declared.Header.{Header}
use Rattle.question.specs.declared.Names.{Names}
use Rattle.question.specs.NodeRead.{Leaf, Binary, Unary, Named, Member, Call, Method}
use Rattle.ty.proofs.Moved.{reads_more}
use Rattle.ty.proofs.TypeSizes.{whole}
use Rattle.ty.specs.Bytes.{Ty, plain_ty}
use Rattle.std.specs.Prelude.{Result, Ok, Err}
use Rattle.ty.specs.Choose.{choose}
use Rattle.ty.specs.Kind.{nullable_kind}
use Rattle.ty.specs.Name.{first_table_id}
use Rattle.ty.specs.Read.{read_type, longest_type, whole_read}
use Rattle.ty.specs.declared.read.TypeFault.TheVariants.{Cut, Malformed, Endless as Unended}
use Rattle.ty.specs.declared.read.TypeFault.{TypeFault}
use Rattle.ty.specs.declared.read.TypeRead.{TypeRead}

-- ---- how many bytes a tree writes
mutual
  unfolding write_tree bytes

  pub written_bytes : (x : Node) → length (write_tree x) ≡ bytes x
  written_bytes (leaf t) = omega arith
  written_bytes (binary op l r) = rw length-append (omega (arith, written_bytes l, written_bytes r))
  written_bytes (unary op x) = omega (arith, written_bytes x)
  written_bytes (named id x) = omega (arith, written_bytes x)
  written_bytes (member id x) = omega (arith, written_bytes x)
  written_bytes (call id r) = omega (arith, row_written_bytes r)
  written_bytes (method id x r) = rw length-append (omega (arith, written_bytes x, row_written_bytes r))

  row_written_bytes : (r : Row) → length (write_row r) ≡ bytess r
  row_written_bytes nil = refl
  row_written_bytes (cons x r) = rw length-append (omega (arith, written_bytes x, row_written_bytes r))

-- ---- each node's own bytes are read as it was written
id_again : (id : ℕ) → id % 256 + 256 * (id / 256) ≡ id
id_again id = omega arith

module _ (w : List ℕ) where
  binary_in : (op : ℕ) → op ≤ last_binary → node_in (1 ∷ op ∷ w) ≡ Binary op
  unfolding node_in node_of choose
  binary_in op h = rw (le-leb 2 (suc (suc (length w))) (omega arith), le-leb op last_binary h)

  unary_in : (op : ℕ) → op ≤ last_unary → node_in (2 ∷ op ∷ w) ≡ Unary op
  unfolding node_in node_of choose
  unary_in op h = rw (le-leb 2 (suc (suc (length w))) (omega arith), le-leb op last_unary h)

  named_in : (id : ℕ) → node_in (3 ∷ id % 256 ∷ id / 256 ∷ w) ≡ Named id
  unfolding node_in node_of choose
  named_in id = rw (le-leb 3 (suc (suc (suc (length w)))) (omega arith), id_again id)

  member_in : (id : ℕ) → node_in (4 ∷ id % 256 ∷ id / 256 ∷ w) ≡ Member id
  unfolding node_in node_of choose
  member_in id = rw (le-leb 3 (suc (suc (suc (length w)))) (omega arith), id_again id)

  call_in_lem : (id n : ℕ) → n ≤ most_arguments → node_in (5 ∷ id % 256 ∷ id / 256 ∷ n ∷ w) ≡ Call id n
  unfolding node_in node_of choose
  call_in_lem id n h = rw (le-leb 4 (suc (suc (suc (suc (length w))))) (omega arith), le-leb n most_arguments h, id_again id)

  method_in_lem : (id n : ℕ) → n ≤ most_arguments → node_in (6 ∷ id % 256 ∷ id / 256 ∷ n ∷ w) ≡ Method id n
  unfolding node_in node_of choose
  method_in_lem id n h = rw (le-leb 4 (suc (suc (suc (suc (length w))))) (omega arith), le-leb n most_arguments h, id_again id)

  leaf_in : (N : Names) (t : Ty) (l : LeafLegal N t) → node_in (0 ∷ (t ++ w)) ≡ Leaf (length t) l.top
  unfolding node_in leaf_of choose
  leaf_in N t l = rw (reads_more t w longest_type (length t) l.top l.error l.whole)

-- ---- a legal tree's bytes at a position: the tree stands there
module _ (N : Names) (q : List ℕ) where
  node_at_lem : (at : ℕ) (w : List ℕ) → drop at q ≡ w → node_at q at ≡ node_in w
  unfolding node_at
  node_at_lem at w e = ap node_in e

  -- what stands behind so many bytes
  behind : (at n : ℕ) (s w : List ℕ) → length s ≡ n → drop at q ≡ s ++ w → drop (at + n) q ≡ w
  behind at n s w l e = sym (drop-drop n at q) ∙ ap (drop n) e ∙ drop_at s w n l

  -- of two trees, the first with the second behind it
  pair : (at n : ℕ) (s a b w : List ℕ) → length s ≡ n → drop at q ≡ s ++ ((a ++ b) ++ w) → drop (at + n) q ≡ a ++ (b ++ w)
  pair at n s a b w l e = behind at n s ((a ++ b) ++ w) l e ∙ append_assoc a b w

  mutual
    unfolding TreeStands write_tree Legal

    stands : (x : Node) (at : ℕ) (w : List ℕ) → Legal N x → drop at q ≡ write_tree x ++ w → TreeStands q x at
    stands (leaf t) at w v e =
        record {
          top = v.top;
          read = node_at_lem at (0 ∷ (t ++ w)) e ∙ leaf_in w N t v;
          part = ap (take (length t)) (behind at 1 (0 ∷ []) (t ++ w) refl e) ∙ take_at t w (length t) refl;
        }
    stands (binary op l r) at w v e =
        let p = pair at 2 (1 ∷ op ∷ []) (write_tree l) (write_tree r) w refl e in (
          node_at_lem at (1 ∷ op ∷ ((write_tree l ++ write_tree r) ++ w)) e ∙ binary_in ((write_tree l ++ write_tree r) ++ w) op v.2,
          stands l (at + 2) (write_tree r ++ w) v.0 p,
          stands r (at + 2 + bytes l) w v.1 (behind (at + 2) (bytes l) (write_tree l) (write_tree r ++ w) (written_bytes l) p),
        )
    stands (unary op x) at w v e = (
      node_at_lem at (2 ∷ op ∷ (write_tree x ++ w)) e ∙ unary_in (write_tree x ++ w) op v.1,
      stands x (at + 2) w v.0 (behind at 2 (2 ∷ op ∷ []) (write_tree x ++ w) refl e),
    )
    stands (named id x) at w v e = (
      node_at_lem at (3 ∷ id % 256 ∷ id / 256 ∷ (write_tree x ++ w)) e ∙ named_in (write_tree x ++ w) id,
      stands x (at + 3) w v.1 (behind at 3 (3 ∷ id % 256 ∷ id / 256 ∷ []) (write_tree x ++ w) refl e),
    )
    stands (member id x) at w v e = (
      node_at_lem at (4 ∷ id % 256 ∷ id / 256 ∷ (write_tree x ++ w)) e ∙ member_in (write_tree x ++ w) id,
      stands x (at + 3) w v.1 (behind at 3 (4 ∷ id % 256 ∷ id / 256 ∷ []) (write_tree x ++ w) refl e),
    )
    stands (call id r) at w v e = (
      node_at_lem at (5 ∷ id % 256 ∷ id / 256 ∷ count r ∷ (write_row r ++ w)) e ∙ call_in_lem (write_row r ++ w) id (count r) v.2,
      row_stands r (at + 4) w v.1 (behind at 4 (5 ∷ id % 256 ∷ id / 256 ∷ count r ∷ []) (write_row r ++ w) refl e),
    )
    stands (method id x r) at w v e =
        let p = pair at 4 (6 ∷ id % 256 ∷ id / 256 ∷ count r ∷ []) (write_tree x) (write_row r) w refl e in (
          node_at_lem at (6 ∷ id % 256 ∷ id / 256 ∷ count r ∷ ((write_tree x ++ write_row r) ++ w)) e ∙ method_in_lem ((write_tree x ++ write_row r) ++ w) id (count r) v.3,
          stands x (at + 4) (write_row r ++ w) v.1 p,
          row_stands r (at + 4 + bytes x) w v.2 (behind (at + 4) (bytes x) (write_tree x) (write_row r ++ w) (written_bytes x) p),
        )

    row_stands : (r : Row) (at : ℕ) (w : List ℕ) → RowLegal N r → drop at q ≡ write_row r ++ w → RowStands q r at
    row_stands nil at w v e = tt
    row_stands (cons x r) at w v e =
        let p = e ∙ append_assoc (write_tree x) (write_row r) w in (
          stands x at (write_row r ++ w) v.0 p,
          row_stands r (at + bytes x) w v.1 (behind at (bytes x) (write_tree x) (write_row r ++ w) (written_bytes x) p),
        )

-- ---- a tree of 64 nodes is no longer than a question may be
module _ (N : Names) where
  leaf_short : (t : Ty) → LeafLegal N t → length t ≤ longest_type
  leaf_short t l = (whole t longest_type (length t) l.top l.error l.whole).1

  mutual
    unfolding bytes size Legal

    bytes_few : (x : Node) → Legal N x → bytes x ≤ 193 * size x
    bytes_few (leaf t) v = omega (arith, leaf_short t v)
    bytes_few (binary op l r) v = omega (arith, bytes_few l v.0, bytes_few r v.1)
    bytes_few (unary op x) v = omega (arith, bytes_few x v.0)
    bytes_few (named id x) v = omega (arith, bytes_few x v.1)
    bytes_few (member id x) v = omega (arith, bytes_few x v.1)
    bytes_few (call id r) v = omega (arith, row_bytes_few r v.1)
    bytes_few (method id x r) v = omega (arith, bytes_few x v.1, row_bytes_few r v.2)

    row_bytes_few : (r : Row) → RowLegal N r → bytess r ≤ 193 * sizes r
    row_bytes_few nil v = omega arith
    row_bytes_few (cons x r) v = omega (arith, bytes_few x v.0, row_bytes_few r v.1)

-- ---- the header
header_again : (h : Header) (w : List ℕ) → header_of (write_header h ++ w) ≡ h
unfolding header_of write_header write_suspend
header_again h w = go h.current h.pkg h.suspend
  where
    go : (c p : ℕ) (s : Bool) → header_of (write_header (record { current = c; pkg = p; suspend = s }) ++ w) ≡ record { current = c; pkg = p; suspend = s }
    go c p false = rw (id_again c, id_again p)
    go c p true = rw (id_again c, id_again p)

suspend_small : (s : Bool) → write_suspend s ≤ 1
unfolding write_suspend
suspend_small false = omega arith
suspend_small true = omega arith

header_written : (h : Header) (w : List ℕ) (N : Names) → none_or_defined N h.current ≡ true → none_or_defined N h.pkg ≡ true
    → HeaderFine N (write_header h ++ w)
unfolding write_header
header_written h w N c p =
    record {
      there = omega arith;
      suspend = suspend_small h.suspend;
      current = ap (λ (g : Header). none_or_defined N g.current) (header_again h w) ∙ c;
      pkg = ap (λ (g : Header). none_or_defined N g.pkg) (header_again h w) ∙ p;
    }

header_long : (h : Header) → length (write_header h) ≡ header_bytes
unfolding write_header
header_long h = refl

-- ---- the question
module _ (N : Names) (h : Header) (x : Node) (v : Legal N x) (few : size x ≤ most_nodes) where
  question_stands : TreeStands (write_question h x) x header_bytes
  unfolding write_question
  question_stands =
      stands N (write_question h x) x header_bytes [] v (drop_at (write_header h) (write_tree x) header_bytes (header_long h) ∙ sym (append-nil (write_tree x)))

  question_long : length (write_question h x) ≡ header_bytes + bytes x
  unfolding write_question
  question_long = length-append (write_header h) (write_tree x) ∙ omega (arith, header_long h, written_bytes x)

  question_accepted : none_or_defined N h.current ≡ true → none_or_defined N h.pkg ≡ true → question_fault N (write_question h x) ≡ 0
  unfolding write_question
  question_accepted c p =
      accepts N (write_question h x) x (omega (arith, question_long, bytes_few N x v)) (header_written h (write_tree x) N c p)
      (record { stands = question_stands; ends = sym question_long; few = few; legal = v })

  pub reads_back : ReadsBack N h x
  unfolding write_question
  reads_back =
      record {
        tree = tree-found (write_question h x) x question_stands few;
        header = header_again h (write_tree x);
        long = question_long;
        accepted = question_accepted;
      }

-- ---- a leaf whose type is a kind alone is legal under any names: 0 is a built-in name's id
whole_path : (n n' t t' : ℕ) (e : Bool) → n ≡ n' → t ≡ t' → whole_read n t e ≡ whole_read n' t' e
whole_path n n' t t' e p q = rw (p, q)

plain-whole : (r : Result TypeRead TypeFault) → leaf_of r ≡ Leaf 1 0 → (error : Bool) × (r ≡ whole_read 1 0 error)
unfolding leaf_of
plain-whole (Ok r) e =
    let l : r.len ≡ 1 = cc in
    let t : r.top ≡ 0 = cc in
    (r.error, whole_path r.len 1 r.top 0 r.error l t)
plain-whole (Err Cut) e = let z : ◌≡◌ {A = ℕ} 0 1 = cc in absurd (omega arith)
plain-whole (Err Malformed) e = let z : ◌≡◌ {A = ℕ} 0 1 = cc in absurd (omega arith)
plain-whole (Err (Unended top error)) e = let z : ◌≡◌ {A = ℕ} 0 1 = cc in absurd (omega arith)

pub plain_legal : (k : ℕ) → k < nullable_kind → (N : Names) → Legal N (leaf (plain_ty k))
unfolding Legal
plain_legal k low N =
    let (e, r) = plain-whole (read_type (plain_ty k) longest_type) (plain-leaf (plain_ty k) low) in
    record { top = 0; error = e; whole = r; known = lt-ltb 0 (first_table_id + N.count) (omega arith) }
