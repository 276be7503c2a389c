-- What is read of nodes without a fault stands there, with nothing undefined in it.
use Prim.Native.Nat.{ℕ, zero, suc, ◌+◌, ◌≤◌}
use borrow.Author.Tests.{eqb-true, eq-eqb}
use lib.Dec.{eqb}
use lib.ListN.{length, take, drop}
use mathlib.Core.Bool.{true, true≢false}
use mathlib.Core.List.{List}
use mathlib.Core.Path.{◌≡◌, refl, sym, ap, ◌∙◌}
use native.Mathlib.Omega.{arith}
use Rattle.question.proofs.NodeIds.{same_fault}
use Rattle.question.proofs.NodeReading.{room_of, leaf-length, leaf-whole}
use Rattle.question.proofs.Trees.{take_count, split_count, split_bytes, split_sizes}
use Rattle.question.specs.Inside.Stands.{TreeStands, RowStands}
use Rattle.question.specs.Inside.Top.{id_fault, endless_fault, read_fault}
use Rattle.question.specs.Legal.{Legal, RowLegal}
use Rattle.question.specs.NodeRead.{node_at, own_bytes, children}
use Rattle.question.specs.Parse.{first, rest, take_row, drop_row, onto, row_at}
use Rattle.question.specs.QuestionRefused.{defined, node_fault, more_fault, end_fault, nodes_fault}
use Rattle.question.specs.Tree.{Row, leaf, binary, unary, named, member, call, method, nil, cons, size, sizes, count, bytes, bytess}
use Rattle.question.specs.declared.Names.{Names}
use Rattle.question.specs.NodeRead.{Bad, Leaf, Endless, Binary, Unary, Named, Member, Call, Method}
use Rattle.question.specs.NodeRead.{NodeRead}
use Rattle.ty.proofs.Choice.{by_choice}
use Rattle.ty.specs.Choose.{choose}

pub record Found (N : Names) (q : List ℕ) (at pending left : ℕ) (r : Row) : Type 0 where
  pub stands : RowStands q r at
  pub ends : at + bytess r ≡ length q
  pub counted : count r ≡ pending
  pub few : sizes r ≤ left
  pub legal : RowLegal N r

-- ---- what a number 0 says
pub id_known : (N : Names) (id : ℕ) → id_fault N id ≡ 0 → defined N id ≡ true
unfolding id_fault
id_known N id = by_choice (λ n. n ≡ 0 → defined N id ≡ true) (defined N id) (λ e _. e) (λ _ z. absurd (omega arith))

endless_some : (N : Names) (top : ℕ) → endless_fault N top ≡ 0 → ⊥
unfolding endless_fault
endless_some N top = by_choice (λ n. n ≡ 0 → ⊥) (defined N top) (λ _ z. omega arith) (λ _ z. omega arith)

more_some : (h : NodeRead) → more_fault h ≡ 0 → ⊥
unfolding more_fault
more_some Bad e = omega arith
more_some (Leaf len top) e = omega arith
more_some (Endless top) e = omega arith
more_some (Binary op) e = omega arith
more_some (Unary op) e = omega arith
more_some (Named id) e = omega arith
more_some (Member id) e = omega arith
more_some (Call id n) e = omega arith
more_some (Method id n) e = omega arith

pub at_end : (q : List ℕ) (at : ℕ) → end_fault q at ≡ 0 → at ≡ length q
unfolding end_fault
at_end q at = by_choice (λ n. n ≡ 0 → at ≡ length q) (eqb at (length q)) (λ e _. eqb-true at (length q) e) (λ _ z. absurd (omega arith))

-- a first fault of 0, and then the next
pub both_none : (a x : ℕ) → choose (eqb a 0) x a ≡ 0 → (a ≡ 0) × (x ≡ 0)
both_none a x =
    by_choice (λ n. n ≡ 0 → (a ≡ 0) × (x ≡ 0)) (eqb a 0) (λ t e. (eqb-true a 0 t, e)) (λ t e. absurd (true≢false (sym (eq-eqb a 0 e) ∙ t)))

-- ---- a row apart
split_ats : (q : List ℕ) (n : ℕ) (r : Row) (at m : ℕ) → m ≡ at + bytess (take_row n r) → RowStands q r at → RowStands q (take_row n r) at × RowStands q (drop_row n r) m
unfolding take_row drop_row RowStands bytess
split_ats q zero r at m e s = let f : m ≡ at = omega arith in (tt, rw f s)
split_ats q (suc n) nil at m e s = (tt, tt)
split_ats q (suc n) (cons x r) at m e s = let w = split_ats q n r (at + bytes x) m (omega arith) s.1 in ((s.0, w.0), w.1)

split_legal : (N : Names) (n : ℕ) (r : Row) → RowLegal N r → RowLegal N (take_row n r) × RowLegal N (drop_row n r)
unfolding take_row drop_row RowLegal
split_legal N zero r g = (tt, g)
split_legal N (suc n) nil g = (tt, tt)
split_legal N (suc n) (cons x r) g = let w = split_legal N n r g.1 in ((g.0, w.0), w.1)

-- ---- a node before the row of its children
module _ (N : Names) (q : List ℕ) (at p f : ℕ) where
  found-leaf : (len top : ℕ) → node_at q at ≡ Leaf len top → defined N top ≡ true → (r : Row) → Found N q (at + (len + 1)) (p + 0) f r
      → Found N q at (suc p) (suc f) (cons (leaf (take len (drop (at + 1) q))) r)
  unfolding TreeStands RowStands bytes bytess size sizes count Legal RowLegal
  found-leaf len top h k r w =
      let d : List ℕ = drop (at + 1) q in
      let l : length (take len d) ≡ len = leaf-length q at len top h in
      let a : at + (len + 1) ≡ at + (1 + length (take len d)) = omega arith in
      let (error, t) = leaf-whole q at len top h in
      record {
        stands = (record { top = top; read = rw l h; part = ap (λ (m : ℕ). take m d) l }, rw a at w.stands);
        ends = omega (arith, w.ends);
        counted = omega (arith, w.counted);
        few = omega (arith, w.few);
        legal = (record { top = top; error = error; whole = rw l t; known = k }, w.legal);
      }

  found-binary : (op : ℕ) → node_at q at ≡ Binary op → (r : Row) → Found N q (at + 2) (p + 2) f r
      → Found N q at (suc p) (suc f) (cons (binary op (first r) (first (rest r))) (rest (rest r)))
  unfolding TreeStands RowStands bytes bytess size sizes count Legal RowLegal first rest
  found-binary op h nil w = absurd (omega (arith, w.counted))
  found-binary op h (cons x nil) w = absurd (omega (arith, w.counted))
  found-binary op h (cons x (cons y r)) w =
      let a : at + 2 + bytes x + bytes y ≡ at + (2 + bytes x + bytes y) = omega arith in
      let s = w.stands in
      let g = w.legal in
      record {
        stands = ((h, s.0, s.1.0), (rw a at s).1.1);
        ends = omega (arith, w.ends);
        counted = omega (arith, w.counted);
        few = omega (arith, w.few);
        legal = ((g.0, g.1.0, (room_of q at (Binary op) h).1), g.1.1);
      }

  found-unary : (op : ℕ) → node_at q at ≡ Unary op → (r : Row) → Found N q (at + 2) (p + 1) f r → Found N q at (suc p) (suc f) (cons (unary op (first r)) (rest r))
  unfolding TreeStands RowStands bytes bytess size sizes count Legal RowLegal first rest
  found-unary op h nil w = absurd (omega (arith, w.counted))
  found-unary op h (cons x r) w =
      let a : at + 2 + bytes x ≡ at + (2 + bytes x) = omega arith in
      let s = w.stands in
      let g = w.legal in
      record {
        stands = ((h, s.0), (rw a at s).1);
        ends = omega (arith, w.ends);
        counted = omega (arith, w.counted);
        few = omega (arith, w.few);
        legal = ((g.0, (room_of q at (Unary op) h).1), g.1);
      }

  found-named : (id : ℕ) → node_at q at ≡ Named id → defined N id ≡ true → (r : Row) → Found N q (at + 3) (p + 1) f r
      → Found N q at (suc p) (suc f) (cons (named id (first r)) (rest r))
  unfolding TreeStands RowStands bytes bytess size sizes count Legal RowLegal first rest
  found-named id h k nil w = absurd (omega (arith, w.counted))
  found-named id h k (cons x r) w =
      let a : at + 3 + bytes x ≡ at + (3 + bytes x) = omega arith in
      let s = w.stands in
      let g = w.legal in
      record {
        stands = ((h, s.0), (rw a at s).1);
        ends = omega (arith, w.ends);
        counted = omega (arith, w.counted);
        few = omega (arith, w.few);
        legal = ((k, g.0), g.1);
      }

  found_member : (id : ℕ) → node_at q at ≡ Member id → defined N id ≡ true → (r : Row) → Found N q (at + 3) (p + 1) f r
      → Found N q at (suc p) (suc f) (cons (member id (first r)) (rest r))
  unfolding TreeStands RowStands bytes bytess size sizes count Legal RowLegal first rest
  found_member id h k nil w = absurd (omega (arith, w.counted))
  found_member id h k (cons x r) w =
      let a : at + 3 + bytes x ≡ at + (3 + bytes x) = omega arith in
      let s = w.stands in
      let g = w.legal in
      record {
        stands = ((h, s.0), (rw a at s).1);
        ends = omega (arith, w.ends);
        counted = omega (arith, w.counted);
        few = omega (arith, w.few);
        legal = ((k, g.0), g.1);
      }

  found-call : (id n : ℕ) → node_at q at ≡ Call id n → defined N id ≡ true → (r : Row) → Found N q (at + 4) (p + n) f r
      → Found N q at (suc p) (suc f) (cons (call id (take_row n r)) (drop_row n r))
  unfolding TreeStands RowStands bytes bytess size sizes count Legal RowLegal
  found-call id n h k r w =
      let m : n ≤ count r = omega (arith, w.counted) in
      let a = split_ats q n r (at + 4) (at + (4 + bytess (take_row n r))) (omega arith) w.stands in
      let g = split_legal N n r w.legal in
      record {
        stands = ((rw (take_count n r m) h, a.0), a.1);
        ends = omega (arith, w.ends, split_bytes n r);
        counted = omega (arith, w.counted, split_count n r m);
        few = omega (arith, w.few, split_sizes n r);
        legal = ((k, g.0, omega (arith, take_count n r m, (room_of q at (Call id n) h).1)), g.1);
      }

  found-method : (id n : ℕ) → node_at q at ≡ Method id n → defined N id ≡ true → (r : Row) → Found N q (at + 4) (p + suc n) f r
      → Found N q at (suc p) (suc f) (cons (method id (first r) (take_row n (rest r))) (drop_row n (rest r)))
  unfolding TreeStands RowStands bytes bytess size sizes count Legal RowLegal first rest
  found-method id n h k nil w = absurd (omega (arith, w.counted))
  found-method id n h k (cons x r) w =
      let m : n ≤ count r = omega (arith, w.counted) in
      let a = split_ats q n r (at + 4 + bytes x) (at + (4 + bytes x + bytess (take_row n r))) (omega arith) w.stands.1 in
      let g = split_legal N n r w.legal.1 in
      record {
        stands = ((rw (take_count n r m) h, w.stands.0, a.0), a.1);
        ends = omega (arith, w.ends, split_bytes n r);
        counted = omega (arith, w.counted, split_count n r m);
        few = omega (arith, w.few, split_sizes n r);
        legal = ((k, w.legal.0, g.0, omega (arith, take_count n r m, (room_of q at (Method id n) h).1)), g.1);
      }

  found_node : (h : NodeRead) → node_at q at ≡ h → read_fault N h ≡ 0 → (r : Row) → Found N q (at + own_bytes h) (p + children h) f r → Found N q at (suc p) (suc f) (onto h q at r)
  unfolding read_fault own_bytes children onto
  found_node Bad e z r w = absurd (omega arith)
  found_node (Leaf len top) e z r w = found-leaf len top e (id_known N top z) r w
  found_node (Endless top) e z r w = absurd (endless_some N top z)
  found_node (Binary op) e z r w = found-binary op e r w
  found_node (Unary op) e z r w = found-unary op e r w
  found_node (Named id) e z r w = found-named id e (id_known N id z) r w
  found_node (Member id) e z r w = found_member id e (id_known N id z) r w
  found_node (Call id n) e z r w = found-call id n e (id_known N id z) r w
  found_node (Method id n) e z r w = found-method id n e (id_known N id z) r w

found_none : (N : Names) (q : List ℕ) (at left : ℕ) → end_fault q at ≡ 0 → Found N q at 0 left nil
unfolding RowStands bytess sizes count RowLegal
found_none N q at left e = record { stands = tt; ends = omega (arith, at_end q at e); counted = refl; few = omega arith; legal = tt }

pub found : (N : Names) (q : List ℕ) (left at pending : ℕ) → nodes_fault N left q at pending ≡ 0 → Found N q at pending left (row_at left q at pending)
unfolding nodes_fault row_at
found N q zero at zero e = found_none N q at 0 e
found N q zero at (suc p) e = absurd (more_some (node_at q at) e)
found N q (suc left) at zero e = found_none N q at (suc left) e
found N q (suc left) at (suc p) e =
    let (z, y) = both_none (node_fault N q at) _ e in
    found_node N q at p left (node_at q at) refl (same_fault N q at ∙ z) _ (found N q left (at + own_bytes (node_at q at)) (p + children (node_at q at)) y)
