-- The bound on types: a node's type has at most 192 bytes and one for each node of its tree.
use Prim.Native.Nat.{ℕ, suc, ◌+◌, ◌≤◌}
use lib.ListN.{length}
use mathlib.Core.List.{List}
use mathlib.Core.Option.{Option, none, some}
use mathlib.Core.Path.{◌≡◌, refl}
use native.Mathlib.Omega.{arith}
use Rattle.scoring.specs.Arg.{Arg}
use Rattle.overload.specs.Resolve.{resolve}
use Rattle.question.proofs.Trees.{some_size}
use Rattle.question.specs.Tree.{Node, leaf, binary, unary, named, member, call, method, number_after, size, LeavesFit}
use Rattle.question.specs.declared.Header.{Header}
use Rattle.symbol.specs.Symbols.{Symbols}
use Rattle.ty.specs.Read.{longest_type}
use Rattle.typing.proofs.Short.{SymbolsFit, binary_short, unary_short, member_short, call_short, method_short}
use Rattle.typing.specs.Callee.{Callee, call_of, method_of}
use Rattle.typing.specs.Judge.{Judged, RowJudged, call_step, method_step, judge, judges}

module _ (S : Symbols) where
  call_step_lem : (n : ℕ) (found : Option Callee) (b : RowJudged)
      → ((c : Callee) (xs : List Arg) → found ≡ some c → length (resolve S c.overloads n xs).ty ≤ longest_type) → length (call_step S n found b).ty ≤ longest_type
  unfolding call_step
  call_step_lem n none b h = omega arith
  call_step_lem n (some c) b h = h c b.args refl

  method_step_lem : (n : ℕ) (a : Judged) (found : Option Callee) (b : RowJudged)
      → ((c : Callee) (xs : List Arg) → found ≡ some c → length (resolve S c.overloads n xs).ty ≤ longest_type) → length (method_step S n a found b).ty ≤ longest_type
  unfolding method_step
  method_step_lem n a none b h = omega arith
  method_step_lem n a (some c) b h = h c b.args refl

module _ (S : Symbols) (fit : SymbolsFit S) (H : Header) where
  -- (an argument's type is never its call's, so no bound is asked of a row)
  pub type_short : (x : Node) (n : ℕ) → LeavesFit x → length (judge S H x n).ty ≤ longest_type + size x
  unfolding judge size LeavesFit
  type_short (leaf t) n f = omega arith
  type_short (binary op l r) n (f, g) =
      (binary_short S fit (longest_type + suc (size l + size r)) (omega arith) op (judge S H l (suc n)).ty (judge S H r (number_after l (suc n))).ty
      (omega (arith, type_short l (suc n) f)) (omega (arith, type_short r (number_after l (suc n)) g))).len
  type_short (unary op x) n f =
      omega (arith, (unary_short S fit (longest_type + size x) (omega arith) op (judge S H x (suc n)).ty (type_short x (suc n) f)).len)
  type_short (named id x) n f = omega (arith, type_short x (suc n) f)
  type_short (member id x) n f =
      (member_short S fit (longest_type + suc (size x)) (omega arith) (omega (arith, some_size x)) H id (judge S H x (suc n)).ty
      (omega (arith, type_short x (suc n) f))).len
  type_short (call id r) n f = omega (arith, call_step_lem S n (call_of S H id) (judges S H r (suc n)) (λ c xs e. call_short S fit H id c n xs e))
  type_short (method id x r) n f =
      let a = judge S H x (suc n) in
      omega (arith, method_step_lem S n a (method_of S H id a.ty) (judges S H r (number_after x (suc n))) (λ c xs e. method_short S fit H id a.ty c n xs e))
