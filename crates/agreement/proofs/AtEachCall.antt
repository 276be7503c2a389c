-- What holds at each visited call, number by number, holds at each call of the walk.
use Prim.Native.Nat.{ℕ, suc, ◌≤◌}
use mathlib.Core.List.{List, [], ◌∷◌, ◌++◌}
use mathlib.Core.Logic.{inl, inr}
use mathlib.Core.Option.{Option, none, some}
use mathlib.Core.Path.{◌≡◌, refl}
use native.Mathlib.Omega.{arith}
use Rattle.agreement.specs.Inside.EachCall.{EachCall, EachInRow, WhereListed, WhereNamed}
use Rattle.agreement.specs.Reads.{Reads, ReadsAt, types_of}
use Rattle.operators.specs.Out.{Report, any_ty, error_ty}
use Rattle.overload.specs.Before.{call_reports}
use Rattle.question.specs.Tree.{Node, Row, number_after, number_after_row, binary, call, cons, leaf, member, method, named, nil, unary}
use Rattle.question.specs.declared.Header.{Header}
use Rattle.scoring.specs.Arg.{Arg}
use Rattle.symbol.specs.Symbols.{Overload, Symbols}
use Rattle.ty.specs.Bytes.{Ty}
use Rattle.ty.specs.Name.{no_id}
use Rattle.typing.proofs.Base.{Same, Within, same_here, same_left, same_right, same_under, within_join, within_nil, within_wide}
use Rattle.typing.proofs.Range.{node_within, row_within, within_empty}
use Rattle.typing.specs.Callee.{Callee, base_name, call_in, call_of, method_by, method_in, method_of}
use Rattle.typing.specs.Judge.{Judged, RowJudged, call_step, judge, judges, method_step}
use Rattle.typing.specs.Typing.{ArgsBy, RowSubtree, Subtree}
use Rattle.typing.specs.Visits.{Choice}

module _ (S : Symbols) (H : Header) (τ : Choice) where
  -- ---- the types of a tree's root and of a call's arguments
  call_has : (n e : ℕ) (found : Option Callee) (b : RowJudged) → Within b.typed (suc n) e
      → Same τ (call_step S n found b).typed n e → τ n ≡ some (call_step S n found b).ty
  unfolding call_step
  call_has n e none b w s = same_here τ [] error_ty (within_empty w.ordered) s
  call_has n e (some c) b w s = same_here τ b.typed _ w s

  method_has : (n m e : ℕ) (a : Judged) (found : Option Callee) (b : RowJudged) → Within a.typed (suc n) m → Within b.typed m e
      → Same τ (method_step S n a found b).typed n e → τ n ≡ some (method_step S n a found b).ty
  unfolding method_step
  method_has n m e a none b w v s = same_here τ a.typed any_ty (within_wide a.typed w v.ordered) s
  method_has n m e a (some c) b w v s = same_here τ (a.typed ++ b.typed) _ (within_join a.typed b.typed w v) s

  root_given : (x : Node) (n : ℕ) → Same τ (judge S H x n).typed n (number_after x n) → τ n ≡ some (judge S H x n).ty
  unfolding judge number_after
  root_given (leaf t) n s = same_here τ [] t (within_nil (suc n)) s
  root_given (binary op l r) n s =
      let m = number_after l (suc n) in
      let a = (judge S H l (suc n)).typed in
      let b = (judge S H r m).typed in
      same_here τ (a ++ b) _ (within_join a b (node_within S H l (suc n)) (node_within S H r m)) s
  root_given (unary op x) n s = same_here τ (judge S H x (suc n)).typed _ (node_within S H x (suc n)) s
  root_given (named id x) n s = same_here τ (judge S H x (suc n)).typed _ (node_within S H x (suc n)) s
  root_given (member id x) n s = same_here τ (judge S H x (suc n)).typed _ (node_within S H x (suc n)) s
  root_given (call id r) n s = call_has n (number_after_row r (suc n)) (call_of S H id) (judges S H r (suc n)) (row_within S H r (suc n)) s
  root_given (method id x r) n s =
      let m = number_after x (suc n) in
      let a = judge S H x (suc n) in
      method_has n m (number_after_row r m) a (method_of S H id a.ty) (judges S H r m) (node_within S H x (suc n)) (row_within S H r m) s

  args_given : (r : Row) (n : ℕ) → Same τ (judges S H r n).typed n (number_after_row r n) → ArgsBy τ r n (judges S H r n).args
  unfolding judges number_after_row ArgsBy
  args_given nil n s = refl
  args_given (cons x r) n s =
      let m = number_after x n in
      let a = judge S H x n in
      let b = judges S H r m in (
        a.ty,
        b.args,
        root_given x n (same_left τ a.typed b.typed (row_within S H r m) s),
        refl,
        args_given r m (same_right τ a.typed b.typed (node_within S H x n) s),
      )

  module _ (P : ℕ → ℕ → List Arg → Type 0) where
    -- the property holds at each visited call of some trees, by number
    abbrev Met : (ℕ → Node → Type 0) → Type 0
    Met stands =
        (k : ℕ) (y : Node) → stands k y → (T : Ty) → τ k ≡ some T → (owner name : ℕ) (xs : List Arg) → ReadsAt τ y k owner name xs → P owner name xs

    -- ---- the arguments, where there is a list
    call_each : (n e : ℕ) (rs : List Report) (os : List Overload) (b : RowJudged) {X : Type 0} → Within b.typed (suc n) e
        → Same τ (call_step S n (call_in rs os) b).typed n e → (Same τ b.typed (suc n) e → X) → WhereListed os X
    unfolding call_step call_in WhereListed
    call_each n e rs [] b w s f = tt
    call_each n e rs (o ∷ os) b w s f = f (same_under τ b.typed _ w s)

    listed_each : (n m e id owner : ℕ) (a : Judged) (os : List Overload) (b : RowJudged) {X : Type 0} → Within a.typed (suc n) m → Within b.typed m e
        → Same τ (method_step S n a (method_in S H owner id os) b).typed n e → (Same τ b.typed m e → X) → WhereListed os X
    unfolding method_step method_in WhereListed
    listed_each n m e id owner a [] b w v s f = tt
    listed_each n m e id owner a (o ∷ os) b w v s f =
        f (same_right τ a.typed b.typed w (same_under τ (a.typed ++ b.typed) _ (within_join a.typed b.typed w v) s))

    method_each : (n m e id : ℕ) (a : Judged) (base : Option ℕ) (b : RowJudged) {X : ℕ → Type 0} → Within a.typed (suc n) m → Within b.typed m e
        → Same τ (method_step S n a (method_by S H id base) b).typed n e
        → ((owner : ℕ) → base ≡ some owner → Same τ b.typed m e → X owner)
        → WhereNamed base (λ owner. WhereListed (S.functions_of owner id) (X owner))
    unfolding method_by WhereNamed
    method_each n m e id a none b w v s f = tt
    method_each n m e id a (some owner) b w v s f = listed_each n m e id owner a (S.functions_of owner id) b w v s (f owner refl)

    -- the object, listed or not
    object_same : (n m e : ℕ) (a : Judged) (found : Option Callee) (b : RowJudged) → Within a.typed (suc n) m → Within b.typed m e
        → Same τ (method_step S n a found b).typed n e → Same τ a.typed (suc n) m
    unfolding method_step
    object_same n m e a none b w v s =
        λ k h l. same_under τ a.typed any_ty (within_wide a.typed w v.ordered) s k h (let o : m ≤ e = v.ordered in omega arith)
    object_same n m e a (some c) b w v s =
        same_left τ a.typed b.typed v (same_under τ (a.typed ++ b.typed) _ (within_join a.typed b.typed w v) s)

    mutual
      unfolding judge number_after Subtree EachCall ReadsAt

      each : (x : Node) (n : ℕ) → Same τ (judge S H x n).typed n (number_after x n) → Met (λ k y. Subtree x n k y) → EachCall S H P x n
      each (leaf t) n s h = tt
      each (binary op l r) n s h =
          let m = number_after l (suc n) in
          let a = (judge S H l (suc n)).typed in
          let b = (judge S H r m).typed in
          let w = node_within S H l (suc n) in
          let v = node_within S H r m in
          let u = same_under τ (a ++ b) _ (within_join a b w v) s in (
            each l (suc n) (same_left τ a b v u) (λ k y c. h k y (inr (inl c))),
            each r m (same_right τ a b w u) (λ k y c. h k y (inr (inr c))),
          )
      each (unary op x) n s h =
          each x (suc n) (same_under τ (judge S H x (suc n)).typed _ (node_within S H x (suc n)) s) (λ k y c. h k y (inr c))
      each (named id x) n s h =
          each x (suc n) (same_under τ (judge S H x (suc n)).typed _ (node_within S H x (suc n)) s) (λ k y c. h k y (inr c))
      each (member id x) n s h =
          each x (suc n) (same_under τ (judge S H x (suc n)).typed _ (node_within S H x (suc n)) s) (λ k y c. h k y (inr c))
      each (call id r) n s h =
          let b = judges S H r (suc n) in
          let t = root_given (call id r) n s in
          call_each n (number_after_row r (suc n)) (call_reports S H id) (S.functions_of no_id id) b (row_within S H r (suc n)) s
          (λ u. (
            h n (call id r) (inl (refl, refl)) _ t no_id id b.args (refl, refl, args_given r (suc n) u),
            each_row r (suc n) u (λ k y c. h k y (inr c)),
          ))
      each (method id x r) n s h =
          let m = number_after x (suc n) in
          let a = judge S H x (suc n) in
          let b = judges S H r m in
          let w = node_within S H x (suc n) in
          let v = row_within S H r m in
          let t = root_given (method id x r) n s in
          let o = object_same n m (number_after_row r m) a (method_of S H id a.ty) b w v s in (
            each x (suc n) o (λ k y c. h k y (inr (inl c))),
            method_each n m (number_after_row r m) id a (base_name a.ty) b w v s
                (λ owner e u. (
                  h n (method id x r) (inl (refl, refl)) _ t owner id b.args ((a.ty, root_given x (suc n) o, e), refl, args_given r m u),
                  each_row r m u (λ k y c. h k y (inr (inr c))),
                )),
          )

      each_row : (r : Row) (n : ℕ) → Same τ (judges S H r n).typed n (number_after_row r n) → Met (λ k y. RowSubtree r n k y) → EachInRow S H P r n
      each_row nil n s h = tt
      each_row (cons x r) n s h =
          let m = number_after x n in
          let a = (judge S H x n).typed in
          let b = (judges S H r m).typed in (
            each x n (same_left τ a b (row_within S H r m) s) (λ k y c. h k y (inl c)),
            each_row r m (same_right τ a b (node_within S H x n) s) (λ k y c. h k y (inr c)),
          )

-- of the whole tree
pub at_each : (S : Symbols) (H : Header) (P : ℕ → ℕ → List Arg → Type 0) (tree : Node)
    → ((owner name : ℕ) (xs : List Arg) → Reads S H tree owner name xs → P owner name xs) → EachCall S H P tree 0
at_each S H P tree h =
    each S H (types_of S H tree) P tree 0 (λ k p q. refl)
    (λ k y c T e owner name xs r. h owner name xs (record { number = k; node = y; stands = c; visited = (T, e); reads = r }))
