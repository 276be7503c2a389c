-- Laws of the slots that a question needs: a short question has few nodes.
use Prim.Native.Nat.{ℕ, ◌+◌, ◌*◌, ◌≤◌}
use borrow.Author.Tests.{le-leb, leb-true}
use lib.Dec.{leb}
use lib.ListN.{length}
use mathlib.Core.List.{List}
use mathlib.Core.Path.{◌≡◌}
use native.Mathlib.Omega.{arith}
use Rattle.cycle.specs.Inside.Contract.{short_question, few_slots, middle_question, some_slots, slots_for, Space}
use Rattle.area.specs.Inside.Slot.{slot_count}
use Rattle.question.proofs.NodeReading.{room_of}
use Rattle.question.specs.Inside.Stands.{TreeStands, RowStands}
use Rattle.question.specs.Tree.{Node, Row, leaf, binary, unary, named, member, call, method, nil, cons, size, sizes, bytes, bytess}
use Rattle.ty.proofs.Choice.{by_choice, choose_yes}
use Rattle.ty.specs.Bytes.{Ty}
use Rattle.ty.specs.Choose.{choose}

pub slots_few : (n : ℕ) → slots_for n ≤ 64
unfolding slots_for
slots_few n =
    by_choice (λ (m : ℕ). m ≤ 64) _ (λ _. omega arith) λ _.
    by_choice (λ (m : ℕ). m ≤ 64) _ (λ _. omega arith) (λ _. omega arith)

pub slots_short : (n : ℕ) → n ≤ short_question → slots_for n ≤ few_slots
unfolding slots_for
slots_short n h = omega (arith, choose_yes (leb n short_question) few_slots (choose (leb n middle_question) some_slots slot_count) (le-leb n short_question h))

pub slots_middle : (n : ℕ) → n ≤ middle_question → slots_for n ≤ some_slots
unfolding slots_for
slots_middle n h =
    by_choice (λ (m : ℕ). m ≤ some_slots) _ (λ _. omega arith) (λ _. omega (arith, choose_yes (leb n middle_question) some_slots slot_count (le-leb n middle_question h)))

slots_some : (n : ℕ) → 1 ≤ slots_for n
unfolding slots_for
slots_some n =
    by_choice (λ (m : ℕ). 1 ≤ m) _ (λ _. omega arith) λ _.
    by_choice (λ (m : ℕ). 1 ≤ m) _ (λ _. omega arith) (λ _. omega arith)

-- ---- what is lent
pub some_slots_lem : {q : List ℕ} {ts : List Ty} → Space q ts → 1 ≤ length ts
some_slots_lem {q} w = omega (arith, w.enough, slots_some (length q))

pub space_still : {q : List ℕ} {ts ts' : List Ty} → length ts' ≡ length ts → Space q ts → Space q ts'
space_still e w = record { enough = omega (arith, w.enough) }

-- ---- a node has at least 2 bytes
mutual
  unfolding TreeStands RowStands size sizes bytes bytess

  pub two_bytes_lem : (q : List ℕ) (t : Node) (at : ℕ) → TreeStands q t at → 2 * size t ≤ bytes t
  two_bytes_lem q (leaf t) at s = omega (arith, (room_of q at _ s.read).1)
  two_bytes_lem q (binary op l r) at s = omega (arith, two_bytes_lem q l (at + 2) s.1, two_bytes_lem q r (at + 2 + bytes l) s.2)
  two_bytes_lem q (unary op x) at s = omega (arith, two_bytes_lem q x (at + 2) s.1)
  two_bytes_lem q (named id x) at s = omega (arith, two_bytes_lem q x (at + 3) s.1)
  two_bytes_lem q (member id x) at s = omega (arith, two_bytes_lem q x (at + 3) s.1)
  two_bytes_lem q (call id r) at s = omega (arith, two_each q r (at + 4) s.1)
  two_bytes_lem q (method id x r) at s = omega (arith, two_bytes_lem q x (at + 4) s.1, two_each q r (at + 4 + bytes x) s.2)

  two_each : (q : List ℕ) (r : Row) (at : ℕ) → RowStands q r at → 2 * sizes r ≤ bytess r
  two_each q nil at s = omega arith
  two_each q (cons x r) at s = omega (arith, two_bytes_lem q x at s.0, two_each q r (at + bytes x) s.1)

-- the question's tree has slots
pub tree_room : (q : List ℕ) (t : Node) (at : ℕ) → TreeStands q t at → 5 + bytes t ≡ length q → size t ≤ 64 → size t ≤ slots_for (length q)
unfolding slots_for
tree_room q t at s e few =
    by_choice (λ (m : ℕ). size t ≤ m) _ (λ b. omega (arith, two_bytes_lem q t at s, leb-true (length q) short_question b)) λ _.
    by_choice (λ (m : ℕ). size t ≤ m) _ (λ b. omega (arith, two_bytes_lem q t at s, leb-true (length q) middle_question b)) (λ _. few)
