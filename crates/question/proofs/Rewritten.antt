-- Writing what was read gives the bytes that were read: with WrittenTrees, reading and writing are inverse to each other.
use Prim.Native.Nat.{ℕ, ◌+◌, ◌*◌, ◌/◌, ◌%◌, ◌≤◌, ◌<◌}
use lib.ListN.{length, drop, get_or, take-append-drop}
use lib.Seq.{drop-drop, get_or-drop, drop-length}
use mathlib.Core.List.{List, [], ◌∷◌, ◌++◌, append_assoc, append-nil}
use mathlib.Core.Path.{◌≡◌, sym, ap, ◌∙◌}
use native.Mathlib.Omega.{arith}
use Rattle.question.proofs.Accepted.{accepted}
use Rattle.question.proofs.NodeReading.{Front, front_at}
use Rattle.question.specs.Header.{header_bytes}
use Rattle.question.specs.Inside.Stands.{TreeStands, RowStands}
use Rattle.question.specs.Parse.{tree_of}
use Rattle.question.specs.QuestionRefused.{question_fault}
use Rattle.question.specs.Tree.{Node, Row, leaf, binary, unary, named, member, call, method, nil, cons, bytes, bytess, count}
use Rattle.question.specs.Write.{write_tree, write_row}
use Rattle.question.specs.declared.Names.{Names}
use Rattle.question.specs.NodeRead.{Leaf, Binary, Unary, Named, Member, Call, Method}
use Rattle.ty.specs.Bytes.{id_at}
use Rattle.ty.specs.Kind.{no_kind}

-- both bytes of an id, again
id_bytes : (l h id : ℕ) → l < 256 → l + 256 * h ≡ id → (l ≡ id % 256) × (h ≡ id / 256)
id_bytes l h id b e = (omega arith, omega arith)

-- the first bytes of some bytes
one : (s : List ℕ) (a : ℕ) → a < no_kind → get_or s 0 no_kind ≡ a → s ≡ a ∷ drop 1 s
one [] a l e = absurd (omega arith)
one (x ∷ s) a l e = ap (◌∷ s) e

two : (s : List ℕ) (a b : ℕ) → 2 ≤ length s → get_or s 0 no_kind ≡ a → get_or s 1 0 ≡ b → s ≡ a ∷ b ∷ drop 2 s
two [] a b h e f = absurd (omega arith)
two (x ∷ []) a b h e f = absurd (omega arith)
two (x ∷ y ∷ s) a b h e f = rw (← e, ← f)

three : (s : List ℕ) (a id : ℕ) → 3 ≤ length s → get_or s 1 0 < 256 → get_or s 0 no_kind ≡ a → id_at s 1 ≡ id → s ≡ a ∷ id % 256 ∷ id / 256 ∷ drop 3 s
three [] a id h l e f = absurd (omega arith)
three (x ∷ []) a id h l e f = absurd (omega arith)
three (x ∷ y ∷ []) a id h l e f = absurd (omega arith)
three (x ∷ y ∷ z ∷ s) a id h l e f = let (p, q) = id_bytes y z id l f in rw (← e, ← p, ← q)

four : (s : List ℕ) (a id n : ℕ) → 4 ≤ length s → get_or s 1 0 < 256 → get_or s 0 no_kind ≡ a → id_at s 1 ≡ id → get_or s 3 0 ≡ n
    → s ≡ a ∷ id % 256 ∷ id / 256 ∷ n ∷ drop 4 s
four [] a id n h l e f g = absurd (omega arith)
four (x ∷ []) a id n h l e f g = absurd (omega arith)
four (x ∷ y ∷ []) a id n h l e f g = absurd (omega arith)
four (x ∷ y ∷ z ∷ []) a id n h l e f g = absurd (omega arith)
four (x ∷ y ∷ z ∷ w ∷ s) a id n h l e f g = let (p, q) = id_bytes y z id l f in rw (← e, ← p, ← q, ← g)

module _ (q : List ℕ) (low : (i : ℕ) → get_or q i 0 < 256) where
  low_at : (at i : ℕ) → get_or (drop at q) i 0 < 256
  low_at at i = rw get_or-drop (low (at + i))

  -- behind the bytes s of a node stands w, with z behind it
  onto : (at n : ℕ) (s w z : List ℕ) → drop at q ≡ s ++ drop n (drop at q) → drop (at + n) q ≡ w ++ z → drop at q ≡ (s ++ w) ++ z
  onto at n s w z e f = e ∙ ap (s ++◌) (drop-drop n at q ∙ f) ∙ sym (append_assoc s w z)

  pair : (at : ℕ) (a b z : List ℕ) (mid : List ℕ) → drop at q ≡ a ++ mid → mid ≡ b ++ z → drop at q ≡ (a ++ b) ++ z
  pair at a b z mid e f = e ∙ ap (a ++◌) f ∙ sym (append_assoc a b z)

  mutual
    unfolding TreeStands write_tree bytes Front

    -- what stands at a position is the tree's bytes, and behind them the rest
    pub written_at : (x : Node) (at : ℕ) → TreeStands q x at → drop at q ≡ write_tree x ++ drop (at + bytes x) q
    written_at (leaf t) at v =
        let (e, r, k) = front_at q at (Leaf (length t) v.top) v.read in
        let n : at + 1 + length t ≡ at + (1 + length t) = omega arith in
        let d : drop (at + 1) q ≡ t ++ drop (at + (1 + length t)) q =
        sym (take-append-drop (length t) (drop (at + 1) q))
        ∙ ap (◌++ drop (length t) (drop (at + 1) q)) v.part
        ∙ ap (t ++◌) (drop-drop (length t) (at + 1) q ∙ ap (λ (m : ℕ). drop m q) n) in
        onto at 1 (0 ∷ []) t (drop (at + (1 + length t)) q) (one (drop at q) 0 (omega arith) k) d
    written_at (binary op l r) at v =
        let w = front_at q at (Binary op) v.0 in
        let n : at + 2 + bytes l + bytes r ≡ at + (2 + bytes l + bytes r) = omega arith in
        let d = pair (at + 2) (write_tree l) (write_tree r) (drop (at + 2 + bytes l + bytes r) q) (drop (at + 2 + bytes l) q) (written_at l (at + 2) v.1)
        (written_at r (at + 2 + bytes l) v.2) in
        onto at 2 (1 ∷ op ∷ []) (write_tree l ++ write_tree r) (drop (at + (2 + bytes l + bytes r)) q) (two (drop at q) 1 op w.0 w.2 w.3)
        (d ∙ ap (λ (m : ℕ). (write_tree l ++ write_tree r) ++ drop m q) n)
    written_at (unary op x) at v =
        let w = front_at q at (Unary op) v.0 in
        let n : at + 2 + bytes x ≡ at + (2 + bytes x) = omega arith in
        onto at 2 (2 ∷ op ∷ []) (write_tree x) (drop (at + (2 + bytes x)) q) (two (drop at q) 2 op w.0 w.2 w.3)
        (written_at x (at + 2) v.1 ∙ ap (λ (m : ℕ). write_tree x ++ drop m q) n)
    written_at (named id x) at v =
        let w = front_at q at (Named id) v.0 in
        let n : at + 3 + bytes x ≡ at + (3 + bytes x) = omega arith in
        onto at 3 (3 ∷ id % 256 ∷ id / 256 ∷ []) (write_tree x) (drop (at + (3 + bytes x)) q) (three (drop at q) 3 id w.0 (low_at at 1) w.1 w.2)
        (written_at x (at + 3) v.1 ∙ ap (λ (m : ℕ). write_tree x ++ drop m q) n)
    written_at (member id x) at v =
        let w = front_at q at (Member id) v.0 in
        let n : at + 3 + bytes x ≡ at + (3 + bytes x) = omega arith in
        onto at 3 (4 ∷ id % 256 ∷ id / 256 ∷ []) (write_tree x) (drop (at + (3 + bytes x)) q) (three (drop at q) 4 id w.0 (low_at at 1) w.1 w.2)
        (written_at x (at + 3) v.1 ∙ ap (λ (m : ℕ). write_tree x ++ drop m q) n)
    written_at (call id r) at v =
        let w = front_at q at (Call id (count r)) v.0 in
        let n : at + 4 + bytess r ≡ at + (4 + bytess r) = omega arith in
        onto at 4 (5 ∷ id % 256 ∷ id / 256 ∷ count r ∷ []) (write_row r) (drop (at + (4 + bytess r)) q)
        (four (drop at q) 5 id (count r) w.0 (low_at at 1) w.2 w.3 w.4)
        (row_written_at r (at + 4) v.1 ∙ ap (λ (m : ℕ). write_row r ++ drop m q) n)
    written_at (method id x r) at v =
        let w = front_at q at (Method id (count r)) v.0 in
        let n : at + 4 + bytes x + bytess r ≡ at + (4 + bytes x + bytess r) = omega arith in
        let d = pair (at + 4) (write_tree x) (write_row r) (drop (at + 4 + bytes x + bytess r) q) (drop (at + 4 + bytes x) q) (written_at x (at + 4) v.1)
        (row_written_at r (at + 4 + bytes x) v.2) in
        onto at 4 (6 ∷ id % 256 ∷ id / 256 ∷ count r ∷ []) (write_tree x ++ write_row r) (drop (at + (4 + bytes x + bytess r)) q)
        (four (drop at q) 6 id (count r) w.0 (low_at at 1) w.2 w.3 w.4)
        (d ∙ ap (λ (m : ℕ). (write_tree x ++ write_row r) ++ drop m q) n)

    row_written_at : (r : Row) (at : ℕ) → RowStands q r at → drop at q ≡ write_row r ++ drop (at + bytess r) q
    row_written_at nil at v = let n : at ≡ at + 0 = omega arith in ap (λ (m : ℕ). drop m q) n
    row_written_at (cons x r) at v =
        let n : at + bytes x + bytess r ≡ at + (bytes x + bytess r) = omega arith in
        pair at (write_tree x) (write_row r) (drop (at + bytes x + bytess r) q) (drop (at + bytes x) q) (written_at x at v.0) (row_written_at r (at + bytes x) v.1)
        ∙ ap (λ (m : ℕ). (write_tree x ++ write_row r) ++ drop m q) n

  -- the bytes behind an accepted question's header are those that its tree writes
  pub bytes_again : (N : Names) → question_fault N q ≡ 0 → drop header_bytes q ≡ write_tree (tree_of q)
  bytes_again N e =
      let h = (accepted N q e).tree in
      written_at (tree_of q) header_bytes h.stands
      ∙ ap (λ (m : ℕ). write_tree (tree_of q) ++ drop m q) h.ends
      ∙ ap (write_tree (tree_of q) ++◌) (drop-length q)
      ∙ append-nil (write_tree (tree_of q))
