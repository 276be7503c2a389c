-- An accepted question: what holds of its bytes and its tree, and that what holds all that is accepted.
use Prim.Native.Nat.{ℕ, ◌+◌, ◌≤◌}
use borrow.Author.Tests.{ltb-false, le-ltb, eq-eqb}
use lib.Dec.{ltb}
use lib.ListN.{length}
use mathlib.Core.Bool.{Bool, true, false, true≢false, ◌||◌}
use mathlib.Core.List.{List}
use mathlib.Core.Path.{◌≡◌, refl, ap, ◌∙◌}
use native.Mathlib.Omega.{arith}
use Rattle.question.proofs.Finds.{finds, passes, only}
use Rattle.question.proofs.Found.{Found, both_none, found}
use Rattle.question.proofs.Standing.{at_fits}
use Rattle.question.specs.Header.{header_bytes, suspend_byte, header_of}
use Rattle.question.specs.Legal.{Legal, RowLegal}
use Rattle.question.specs.Inside.Stands.{TreeStands, RowStands}
use Rattle.question.specs.Parse.{most_nodes, first, tree_of}
use Rattle.question.specs.QuestionRefused.{longest_question, none_or_defined, header_fault, end_fault, tree_fault, question_fault}
use Rattle.question.specs.Tree.{Node, Row, nil, cons, size, sizes, count, bytes, bytess, LeavesFit}
use Rattle.question.specs.declared.Names.{Names}
use Rattle.ty.proofs.Choice.{by_choice, and_left, and_right}
use Rattle.ty.specs.Choose.{choose}

-- the header is whole, in-suspend is 0 or 1, and its ids are none or defined
pub record HeaderFine (N : Names) (q : List ℕ) : Type 0 where
  pub there : header_bytes ≤ length q
  pub suspend : suspend_byte q ≤ 1
  pub current : none_or_defined N (header_of q).current ≡ true
  pub pkg : none_or_defined N (header_of q).pkg ≡ true

-- the tree t stands behind the header, to the end, and has at most 64 nodes and nothing undefined
pub record Holds (N : Names) (q : List ℕ) (t : Node) : Type 0 where
  pub stands : TreeStands q t header_bytes
  pub ends : header_bytes + bytes t ≡ length q
  pub few : size t ≤ most_nodes
  pub legal : Legal N t

pub record Accepted (N : Names) (q : List ℕ) : Type 0 where
  pub short : length q ≤ longest_question
  pub header : HeaderFine N q
  pub tree : Holds N q (tree_of q)

-- ---- the header
neither : (s t : Bool) → s || t ≡ false → (s ≡ false) × (t ≡ false)
neither true t e = absurd (true≢false e)
neither false t e = (refl, e)

header_fine : (N : Names) (q : List ℕ) → header_fault N q ≡ 0 → HeaderFine N q
unfolding header_fault
header_fine N q =
    by_choice (λ n. n ≡ 0 → HeaderFine N q) _ (λ _ z. absurd (omega arith)) λ e.
    let (there, suspend) = neither (ltb (length q) header_bytes) (ltb 1 (suspend_byte q)) e in
    by_choice (λ n. n ≡ 0 → HeaderFine N q) _
    (λ k z.
    record {
      there = ltb-false (length q) header_bytes there;
      suspend = ltb-false 1 (suspend_byte q) suspend;
      current = and_left (none_or_defined N (header_of q).current) (none_or_defined N (header_of q).pkg) k;
      pkg = and_right (none_or_defined N (header_of q).current) (none_or_defined N (header_of q).pkg) k;
    })
    (λ _ z. absurd (omega arith))

fine_header : (N : Names) (q : List ℕ) → HeaderFine N q → header_fault N q ≡ 0
unfolding header_fault choose
fine_header N q h = rw (le-ltb (length q) header_bytes h.there, le-ltb 1 (suspend_byte q) h.suspend, h.current, h.pkg)

-- ---- the tree
row_holds : (N : Names) (q : List ℕ) (r : Row) → Found N q header_bytes 1 most_nodes r → Holds N q (first r)
unfolding RowStands bytess sizes count RowLegal first
row_holds N q nil w = absurd (omega (arith, w.counted))
row_holds N q (cons x nil) w =
    record { stands = w.stands.0; ends = omega (arith, w.ends); few = omega (arith, w.few); legal = w.legal.0 }
row_holds N q (cons x (cons y r)) w = absurd (omega (arith, w.counted))

tree_holds : (N : Names) (q : List ℕ) → tree_fault N q ≡ 0 → Holds N q (tree_of q)
unfolding tree_fault tree_of
tree_holds N q e = row_holds N q _ (found N q most_nodes header_bytes 1 e)

holds_tree : (N : Names) (q : List ℕ) (t : Node) → Holds N q t → tree_fault N q ≡ 0
unfolding tree_fault RowStands bytess sizes count RowLegal end_fault choose
holds_tree N q t h =
    let e : header_bytes + (bytes t + 0) ≡ length q = omega (arith, h.ends) in
    passes q N most_nodes (cons t nil) header_bytes (h.stands, tt) (h.legal, tt) (omega (arith, h.few)) ∙ rw (eq-eqb (header_bytes + (bytes t + 0)) (length q) e)

-- ---- the question
module _ (N : Names) (q : List ℕ) where
  -- an accepted question holds its tree
  pub accepted : question_fault N q ≡ 0 → Accepted N q
  unfolding question_fault
  accepted =
      by_choice (λ n. n ≡ 0 → Accepted N q) _ (λ _ z. absurd (omega arith)) λ e z.
      let (h, t) = both_none (header_fault N q) (tree_fault N q) z in
      record { short = ltb-false longest_question (length q) e; header = header_fine N q h; tree = tree_holds N q t }

  -- and a question that holds a tree is accepted
  pub accepts : (t : Node) → length q ≤ longest_question → HeaderFine N q → Holds N q t → question_fault N q ≡ 0
  unfolding question_fault choose
  accepts t s h w = rw (le-ltb longest_question (length q) s, fine_header N q h) (holds_tree N q t w)

  -- every leaf of an accepted question has at most 192 bytes
  pub accepted_fits : question_fault N q ≡ 0 → LeavesFit (tree_of q)
  accepted_fits e = at_fits q (tree_of q) header_bytes (accepted e).tree.stands

  -- no tree but one stands behind the header of an accepted question
  pub accepted_only : question_fault N q ≡ 0 → (t : Node) → TreeStands q t header_bytes → t ≡ tree_of q
  accepted_only e t s = only q t (tree_of q) header_bytes s (accepted e).tree.stands

-- a tree of at most 64 nodes that stands behind the header is the question's
pub tree-found : (q : List ℕ) (t : Node) → TreeStands q t header_bytes → size t ≤ most_nodes → tree_of q ≡ t
unfolding tree_of RowStands sizes count first
tree-found q t s h = ap first (finds q most_nodes (cons t nil) header_bytes (s, tt) (omega arith))
