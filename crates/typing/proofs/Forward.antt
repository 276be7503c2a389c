-- A typing's tree is judged with no diagnostic and no Error, and to the typing's types.
use Prim.Native.Nat.{ℕ, suc, ◌≤◌, ◌<◌}
use mathlib.Core.Bool.{true}
use mathlib.Core.List.{List, [], ◌∷◌, ◌++◌}
use mathlib.Core.Logic.{◌⊎◌, inl, inr}
use mathlib.Core.Option.{Option, none, some}
use mathlib.Core.Path.{◌≡◌, refl, ap, sym, ◌∙◌, subst}
use native.Mathlib.Omega.{arith}
use Rattle.area.specs.Diagnostic.{Diag}
use Rattle.scoring.proofs.NoneAndNil.{append_nils, some≢none}
use Rattle.scoring.specs.Arg.{Arg, Verdict, silent}
use Rattle.overload.specs.Resolve.{resolve}
use Rattle.question.specs.Tree.{Node, Row, number_after, number_after_row, binary, call, cons, leaf, member, method, argument_name, named, nil, unary}
use Rattle.question.specs.declared.Header.{Header}
use Rattle.operators.specs.Diag.{reported_at as at}
use Rattle.operators.specs.Out.{Out, Report, any_ty, clean}
use Rattle.symbol.specs.Symbols.{Symbols}
use Rattle.ty.specs.Bytes.{Ty}
use Rattle.typing.proofs.Base.{no_error_append, no_error-one, Within, within_join, within_wide, Same, same_join, same_done, split, some_inj}
use Rattle.typing.proofs.CleanCalls.{Silent, call_law, list_law, method_law}
use Rattle.typing.proofs.Range.{within_empty, node_within, row_within}
use Rattle.typing.proofs.Structural.{Has, NoCall, RowTyped, Typed, Unvisited, WithArgs}
use Rattle.typing.specs.Callee.{Callee, call_of, method_of}
use Rattle.typing.specs.CleanCall.{CleanMethod, HasList}
use Rattle.typing.specs.Judge.{Given, Judged, RowJudged, call_step, closed, done, judge, judges, method_step}
use Rattle.typing.specs.Mark.{no_error, type_in}
use Rattle.typing.specs.Visits.{Choice}

pub record Agrees (τ : Choice) (j : Judged) (n e : ℕ) (T : Ty) : Type 0 where
  pub is_ty : j.ty ≡ T
  pub quiet : j.diags ≡ []
  pub good : no_error j.typed ≡ true
  pub same : Same τ j.typed n e

pub record RowAgrees (τ : Choice) (j : RowJudged) (n e : ℕ) (xs : List Arg) : Type 0 where
  pub is_args : j.args ≡ xs
  pub quiet : j.diags ≡ []
  pub good : no_error j.typed ≡ true
  pub same : Same τ j.typed n e

no_error_nil : no_error [] ≡ true
unfolding no_error
no_error_nil = refl

at_nils : (n : ℕ) (rs : List Report) → rs ≡ [] → at n rs ≡ []
unfolding at
at_nils n rs p = rw p

module _ (τ : Choice) where
  done_agrees : {n e : ℕ} {T : Ty} (t : Ty) (g : List Given) (d : List Diag)
      → Has τ n T → t ≡ T → d ≡ [] → Within g (suc n) e → no_error g ≡ true → Same τ g (suc n) e → Agrees τ (done n t g d) n e T
  done_agrees {n} t g d h p q w f s = record {
    is_ty = p;
    quiet = q;
    good = no_error_append g _ f (no_error-one n t (λ r. h.real (sym p ∙ r)));
    same = same_done τ g t w s (h.gives ∙ ap some (sym p));
  }

  closed_agrees : {n e : ℕ} {T : Ty} (o : Out) (g : List Given) (d : List Diag)
      → Has τ n T → o ≡ clean T → d ≡ [] → Within g (suc n) e → no_error g ≡ true → Same τ g (suc n) e → Agrees τ (closed n o g d) n e T
  closed_agrees {n} o g d h p q w f s =
      done_agrees o.ty g _ h (ap (λ (z : Out). z.ty) p) (append_nils q (at_nils n o.reports (ap (λ (z : Out). z.reports) p))) w f s

module _ (S : Symbols) (τ : Choice) where
  call_agrees : {n e : ℕ} {T : Ty} (found : Option Callee) (b : RowJudged) (Z Ok : List Arg → Type 0)
      → Within b.typed (suc n) e → ((xs : List Arg) → Z xs → RowAgrees τ b (suc n) e xs)
      → ((xs : List Arg) → Ok xs → Silent S n found xs T)
      → Has τ n T → WithArgs Ok Z → Agrees τ (call_step S n found b) n e T
  unfolding call_step
  call_agrees none b Z Ok w hZ law h c = absurd (some≢none (sym (law c.args c.rule).list))
  call_agrees {n} {e} {T} (some k) b Z Ok w hZ law h c =
      let ra : RowAgrees τ b (suc n) e c.args = hZ c.args c.row in
      let sl : Silent S n (some k) c.args T = law c.args c.rule in
      let kc : k ≡ sl.callee = some_inj sl.list in
      let v : resolve S k.overloads n b.args ≡ silent T = rw (kc, ra.is_args) sl.rule in
      let bf : k.before ≡ [] = rw kc sl.allowed in
      done_agrees τ _ b.typed _ h (ap (λ (z : Verdict). z.ty) v)
      (append_nils (at_nils n _ bf) (append_nils ra.quiet (ap (λ (z : Verdict). z.diags) v)))
      w ra.good ra.same

  -- the object's type is in hand: `found` is what it leads to
  method_agrees : {n m e : ℕ} {T : Ty} (found : Option Callee) (a : Judged) (b : RowJudged) (t : Ty) (Z Ok : List Arg → Type 0) (listed : Type 0)
      → Within a.typed (suc n) m → Within b.typed m e
      → Agrees τ a (suc n) m t
      → ((xs : List Arg) → Z xs → RowAgrees τ b m e xs)
      → ((xs : List Arg) → Ok xs → Silent S n found xs T)
      → ((c : Callee) → found ≡ some c → listed)
      → Has τ n T → WithArgs Ok Z ⊎ NoCall listed (Unvisited τ m e) T → Agrees τ (method_step S n a found b) n e T
  unfolding method_step
  method_agrees none a b t Z Ok listed w v oa hZ law ls h (inl c) = absurd (some≢none (sym (law c.args c.rule).list))
  method_agrees {n} {m} {e} {T} none a b t Z Ok listed w v oa hZ law ls h (inr c) =
      done_agrees τ any_ty a.typed a.diags h (sym c.is_any) oa.quiet (within_wide a.typed w v.ordered) oa.good reach
    where
      reach : Same τ a.typed (suc n) e
      reach i p q = side (split i m)
        where
          side : (i < m) ⊎ (m ≤ i) → τ i ≡ type_in a.typed i
          side (inl s) = oa.same i p s
          side (inr s) = c.skipped i s q ∙ sym (w.above i s)
  method_agrees {n} {m} {e} {T} (some k) a b t Z Ok listed w v oa hZ law ls h (inl c) =
      let ra : RowAgrees τ b m e c.args = hZ c.args c.row in
      let sl : Silent S n (some k) c.args T = law c.args c.rule in
      let kc : k ≡ sl.callee = some_inj sl.list in
      let r : resolve S k.overloads n b.args ≡ silent T = rw (kc, ra.is_args) sl.rule in
      let bf : k.before ≡ [] = rw kc sl.allowed in
      done_agrees τ _ (a.typed ++ b.typed) _ h (ap (λ (z : Verdict). z.ty) r)
      (append_nils oa.quiet (append_nils (at_nils n _ bf) (append_nils ra.quiet (ap (λ (z : Verdict). z.diags) r))))
      (within_join a.typed b.typed w v)
      (no_error_append a.typed b.typed oa.good ra.good)
      (same_join τ a.typed b.typed w v oa.same ra.same)
  method_agrees (some k) a b t Z Ok listed w v oa hZ law ls h (inr c) = absurd (c.unlisted (ls k refl))

module _ (S : Symbols) (H : Header) (τ : Choice) where
  mutual
    unfolding judge Typed number_after

    pub forward : (x : Node) (n : ℕ) (T : Ty) → Typed S H τ x n T → Agrees τ (judge S H x n) n (number_after x n) T
    forward (leaf t) n T (h, p) = done_agrees τ t [] [] h (sym p) refl (within_empty (omega arith)) no_error_nil (λ k a b. absurd (omega arith))
    forward (binary op l r) n T (h, c) =
        let a = forward l (suc n) c.lt c.left in
        let b = forward r (number_after l (suc n)) c.rt c.right in
        let w = node_within S H l (suc n) in
        let v = node_within S H r (number_after l (suc n)) in
        closed_agrees τ _ _ _ h (rw (a.is_ty, b.is_ty) c.rule) (append_nils a.quiet b.quiet) (within_join _ _ w v) (no_error_append _ _ a.good b.good) (same_join τ _ _ w v a.same b.same)
    forward (unary op x) n T (h, c) =
        let a = forward x (suc n) c.ot c.operand in
        closed_agrees τ _ _ _ h (rw a.is_ty c.rule) a.quiet (node_within S H x (suc n)) a.good a.same
    forward (named id x) n T (h, c) =
        let a = forward x (suc n) T c in
        done_agrees τ _ _ _ h a.is_ty a.quiet (node_within S H x (suc n)) a.good a.same
    forward (member id x) n T (h, c) =
        let a = forward x (suc n) c.ot c.object in
        closed_agrees τ _ _ _ h (rw a.is_ty c.rule) a.quiet (node_within S H x (suc n)) a.good a.same
    forward (call id r) n T (h, c) =
        call_agrees S τ (call_of S H id) _ _ _ (row_within S H r (suc n)) (λ xs z. row_forward r (suc n) xs z) (λ xs. (call_law S H id n xs T h.real).0) h c
    forward (method id x r) n T (h, c) =
        let a = forward x (suc n) c.ot c.object in
        let t = (judge S H x (suc n)).ty in
        let p : t ≡ c.ot = a.is_ty in
        method_agrees S τ (method_of S H id t) _ _ c.ot _ _ _ (node_within S H x (suc n)) (row_within S H r (number_after x (suc n))) a (λ xs z. row_forward r (number_after x (suc n)) xs z)
        (λ xs. (method_law S H id n t xs T h.real).0) (λ k e. (list_law S H id t).1 (k, e)) h
        (subst (λ (u : Ty). WithArgs (λ xs. CleanMethod S H id u xs T) (RowTyped S H τ r (number_after x (suc n))) ⊎ NoCall (HasList S id u) (Unvisited τ (number_after x (suc n)) (number_after_row r (number_after x (suc n)))) T) (sym p) c.rule)

    pub row_forward : (r : Row) (n : ℕ) (xs : List Arg) → RowTyped S H τ r n xs → RowAgrees τ (judges S H r n) n (number_after_row r n) xs
    row_forward nil n xs c = record { is_args = sym c; quiet = refl; good = no_error_nil; same = λ k a b. absurd (omega arith) }
    row_forward (cons x r) n xs c =
        let a = forward x n c.ty c.first in
        let b = row_forward r (number_after x n) c.rest c.others in
        record {
          is_args = (λ i. record { name = argument_name x; ty = a.is_ty i; node = n } ∷ b.is_args i) ∙ sym c.are;
          quiet = append_nils a.quiet b.quiet;
          good = no_error_append _ _ a.good b.good;
          same = same_join τ _ _ (node_within S H x n) (row_within S H r (number_after x n)) a.same b.same;
        }
