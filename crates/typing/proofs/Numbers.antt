-- Which numbers a table and a question may draw.
use Prim.Native.Nat.{ℕ, zero, suc, ◌+◌, ◌≤◌}
use mathlib.Core.List.{List, [], ◌∷◌}
use native.Mathlib.Omega.{arith}
use Rattle.question.specs.Header.{header_bytes}
use Rattle.question.specs.Parse.{most_nodes}
use Rattle.question.specs.NodeRead.{node_at, own_bytes, children}
use Rattle.question.specs.QuestionRefused.{header_fault, shape_fault, node_fault, more_fault, end_fault, nodes_fault, tree_fault, question_fault}
use Rattle.question.specs.declared.Names.{Names}
use Rattle.question.specs.NodeRead.{Bad, Leaf, Endless, Binary, Unary, Named, Member, Call, Method}
use Rattle.question.specs.NodeRead.{NodeRead}
use Rattle.record.specs.TableRefused.{record_fault, first_fault, table_fault}
use Rattle.record.specs.Table.{Record, records_of}
use Rattle.ty.proofs.Choice.{by_choice}

abbrev Upto : ℕ → ℕ → Type 0
Upto m n = n ≤ m

record_upto : (earlier : List Record) (r : Record) (rest : List Record) → record_fault earlier r rest ≤ 7
unfolding record_fault
record_upto earlier r rest =
    by_choice (Upto 7) _ (λ _. omega arith) λ _.
    by_choice (Upto 7) _ (λ _. omega arith) λ _.
    by_choice (Upto 7) _ (λ _. omega arith) λ _.
    by_choice (Upto 7) _ (λ _. omega arith) λ _.
    by_choice (Upto 7) _ (λ _. omega arith) λ _. by_choice (Upto 7) _ (λ _. omega arith) (λ _. omega arith)

from_upto : (earlier rs : List Record) → first_fault earlier rs ≤ 7
unfolding first_fault
from_upto earlier [] = omega arith
from_upto earlier (r ∷ rs) = by_choice (Upto 7) _ (λ _. from_upto (r ∷ earlier) rs) (λ _. record_upto earlier r (r ∷ rs))

pub table_upto : (t : List ℕ) → table_fault t ≤ 7
unfolding table_fault
table_upto t = by_choice (Upto 7) _ (λ _. omega arith) (λ _. from_upto [] (records_of t))

module _ (N : Names) where
  shape_upto : (r : NodeRead) → shape_fault r ≤ 11
  unfolding shape_fault
  shape_upto Bad = omega arith
  shape_upto (Leaf len top) = omega arith
  shape_upto (Endless top) = omega arith
  shape_upto (Binary op) = omega arith
  shape_upto (Unary op) = omega arith
  shape_upto (Named id) = omega arith
  shape_upto (Member id) = omega arith
  shape_upto (Call id n) = omega arith
  shape_upto (Method id n) = omega arith

  node_upto : (q : List ℕ) (at : ℕ) → node_fault N q at ≤ 11
  unfolding node_fault
  node_upto q at = by_choice (Upto 11) _ (λ _. shape_upto (node_at q at)) (λ _. omega arith)

  more_upto : (r : NodeRead) → more_fault r ≤ 11
  unfolding more_fault
  more_upto Bad = omega arith
  more_upto (Leaf len top) = omega arith
  more_upto (Endless top) = omega arith
  more_upto (Binary op) = omega arith
  more_upto (Unary op) = omega arith
  more_upto (Named id) = omega arith
  more_upto (Member id) = omega arith
  more_upto (Call id n) = omega arith
  more_upto (Method id n) = omega arith

  end_upto : (q : List ℕ) (at : ℕ) → end_fault q at ≤ 11
  unfolding end_fault
  end_upto q at = by_choice (Upto 11) _ (λ _. omega arith) (λ _. omega arith)

  nodes_upto : (left : ℕ) (q : List ℕ) (at pending : ℕ) → nodes_fault N left q at pending ≤ 11
  unfolding nodes_fault
  nodes_upto zero q at zero = end_upto q at
  nodes_upto zero q at (suc pending) = more_upto (node_at q at)
  nodes_upto (suc left) q at zero = end_upto q at
  nodes_upto (suc left) q at (suc pending) =
      by_choice (Upto 11) _ (λ _. nodes_upto left q (at + own_bytes (node_at q at)) (pending + children (node_at q at))) (λ _. node_upto q at)

  header_upto : (q : List ℕ) → header_fault N q ≤ 11
  unfolding header_fault
  header_upto q = by_choice (Upto 11) _ (λ _. omega arith) λ _. by_choice (Upto 11) _ (λ _. omega arith) (λ _. omega arith)

  pub question_upto : (q : List ℕ) → question_fault N q ≤ 11
  unfolding question_fault tree_fault
  question_upto q =
      by_choice (Upto 11) _ (λ _. omega arith) λ _.
      by_choice (Upto 11) _ (λ _. nodes_upto most_nodes q header_bytes 1) (λ _. header_upto q)
