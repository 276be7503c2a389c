-- A judgement gives types only to the numbers of its tree.
use Prim.Native.Nat.{ℕ, suc, ◌≤◌}
use mathlib.Core.List.{[], ◌++◌}
use mathlib.Core.Option.{Option, none, some}
use Rattle.question.specs.Tree.{Node, Row, number_after, number_after_row, binary, call, cons, leaf, member, method, named, nil, unary}
use Rattle.question.specs.declared.Header.{Header}
use Rattle.operators.specs.Out.{any_ty, error_ty}
use Rattle.symbol.specs.Symbols.{Symbols}
use Rattle.typing.proofs.Base.{Within, within_nil, within_join, within_done, within_wide}
use Rattle.typing.specs.Callee.{Callee, call_of, method_of}
use Rattle.typing.specs.Judge.{Judged, RowJudged, call_step, judge, judges, method_step}

pub within_empty : {a e : ℕ} → a ≤ e → Within [] a e
within_empty {a} h = within_wide [] (within_nil a) h

module _ (S : Symbols) (H : Header) where
  call_within : (n e : ℕ) (found : Option Callee) (b : RowJudged) → Within b.typed (suc n) e → Within (call_step S n found b).typed n e
  unfolding call_step
  call_within n e none b w = within_done [] error_ty (within_empty w.ordered)
  call_within n e (some c) b w = within_done b.typed _ w

  method_within : (n m e : ℕ) (a : Judged) (found : Option Callee) (b : RowJudged) → Within a.typed (suc n) m → Within b.typed m e → Within (method_step S n a found b).typed n e
  unfolding method_step
  method_within n m e a none b w v = within_done a.typed any_ty (within_wide a.typed w v.ordered)
  method_within n m e a (some c) b w v = within_done (a.typed ++ b.typed) _ (within_join a.typed b.typed w v)

  mutual
    unfolding number_after judge

    pub node_within : (x : Node) (n : ℕ) → Within (judge S H x n).typed n (number_after x n)
    node_within (leaf t) n = within_done [] t (within_nil (suc n))
    node_within (binary op l r) n = within_done _ _ (within_join _ _ (node_within l (suc n)) (node_within r (number_after l (suc n))))
    node_within (unary op x) n = within_done _ _ (node_within x (suc n))
    node_within (named id x) n = within_done _ _ (node_within x (suc n))
    node_within (member id x) n = within_done _ _ (node_within x (suc n))
    node_within (call id r) n = call_within n _ (call_of S H id) _ (row_within r (suc n))
    node_within (method id x r) n = method_within n _ _ _ (method_of S H id (judge S H x (suc n)).ty) _ (node_within x (suc n)) (row_within r (number_after x (suc n)))

    pub row_within : (r : Row) (n : ℕ) → Within (judges S H r n).typed n (number_after_row r n)
    row_within nil n = within_nil n
    row_within (cons x r) n = within_join _ _ (node_within x n) (row_within r (number_after x n))
