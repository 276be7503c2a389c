-- A judgement with no diagnostic and no Error is a typing.
use Prim.Native.Nat.{ℕ, suc}
use mathlib.Core.Bool.{true}
use mathlib.Core.List.{List, [], ◌∷◌, ◌++◌, nil≢cons}
use mathlib.Core.Logic.{◌≢◌, ◌⊎◌, inl, inr}
use mathlib.Core.Option.{Option, none, some}
use mathlib.Core.Path.{◌≡◌, refl, sym, ◌∙◌}
use native.Mathlib.Omega.{arith}
use Rattle.area.specs.Diagnostic.{Diag}
use Rattle.scoring.proofs.NoneAndNil.{append_nil_left, append_nil_right, some≢none}
use Rattle.scoring.specs.Arg.{Arg}
use Rattle.overload.specs.Resolve.{resolve}
use Rattle.question.specs.Tree.{Node, Row, number_after, number_after_row, binary, call, cons, leaf, member, method, named, nil, unary}
use Rattle.question.specs.declared.Header.{Header}
use Rattle.operators.specs.Binary.{binary_out}
use Rattle.operators.specs.Diag.{reported_at as at}
use Rattle.rules.specs.Member.{member_out}
use Rattle.operators.specs.Out.{Out, Report, any_ty, clean, error_ty}
use Rattle.operators.specs.Unary.{unary_out}
use Rattle.symbol.specs.Symbols.{Symbols}
use Rattle.ty.specs.Bytes.{Ty}
use Rattle.typing.proofs.Base.{no_error-left, no_error_right, no_error-one_real, Within, within_join, within_wide, Same, same_left, same_right, same_here, same_under}
use Rattle.typing.proofs.CleanCalls.{Silent, call_law, list_law, method_law}
use Rattle.typing.proofs.Range.{within_empty, node_within, row_within}
use Rattle.typing.proofs.Structural.{Has, NoCall, RowTyped, Typed, Unvisited, WithArgs}
use Rattle.typing.specs.Callee.{Callee, call_of, method_of}
use Rattle.typing.specs.CleanCall.{CleanCall, CleanMethod, HasList}
use Rattle.typing.specs.Judge.{Given, Judged, RowJudged, call_step, closed, done, judge, judges, method_step}
use Rattle.typing.specs.Mark.{no_error}
use Rattle.typing.specs.Visits.{Choice}

at_nil : (n : ℕ) (rs : List Report) → at n rs ≡ [] → rs ≡ []
unfolding at
at_nil n [] p = refl
at_nil n (r ∷ rs) p = absurd (nil≢cons (sym p))

-- nothing to report: no diagnostic, no Error, and the choice is the list's between n and e
pub record Passed (τ : Choice) (diags : List Diag) (typed : List Given) (n e : ℕ) : Type 0 where
  pub quiet : diags ≡ []
  pub good : no_error typed ≡ true
  pub same : Same τ typed n e

module _ (τ : Choice) where
  done_has : {n e : ℕ} (t : Ty) (g : List Given) (d : List Diag) → Within g (suc n) e → Passed τ (done n t g d).diags (done n t g d).typed n e → Has τ n t
  done_has {n} t g d w p = record { gives = same_here τ g t w p.same; real = no_error-one_real n t (no_error_right g _ p.good) }

  done-under : {n e : ℕ} (t : Ty) (g : List Given) (d : List Diag) → Within g (suc n) e → Passed τ (done n t g d).diags (done n t g d).typed n e → Passed τ d g (suc n) e
  done-under {n} t g d w p = record { quiet = p.quiet; good = no_error-left g _ p.good; same = same_under τ g t w p.same }

  closed_rule : {n e : ℕ} (o : Out) (g : List Given) (d : List Diag) → Passed τ (closed n o g d).diags (closed n o g d).typed n e → o ≡ clean o.ty
  closed_rule {n} o g d p =
      let q : o.reports ≡ [] = at_nil n o.reports (append_nil_right d _ p.quiet) in
      λ i. record { ty = o.ty; reports = q i }

  closed-under : {n e : ℕ} (o : Out) (g : List Given) (d : List Diag) → Within g (suc n) e → Passed τ (closed n o g d).diags (closed n o g d).typed n e → Passed τ d g (suc n) e
  closed-under {n} o g d w p = record { quiet = append_nil_left d _ p.quiet; good = no_error-left g _ p.good; same = same_under τ g o.ty w p.same }

  both_left : {a m e : ℕ} (d₁ d₂ : List Diag) (g₁ g₂ : List Given) → Within g₂ m e → Passed τ (d₁ ++ d₂) (g₁ ++ g₂) a e → Passed τ d₁ g₁ a m
  both_left d₁ d₂ g₁ g₂ v p = record { quiet = append_nil_left d₁ d₂ p.quiet; good = no_error-left g₁ g₂ p.good; same = same_left τ g₁ g₂ v p.same }

  both_right : {a m e : ℕ} (d₁ d₂ : List Diag) (g₁ g₂ : List Given) → Within g₁ a m → Passed τ (d₁ ++ d₂) (g₁ ++ g₂) a e → Passed τ d₂ g₂ m e
  both_right d₁ d₂ g₁ g₂ w p = record { quiet = append_nil_right d₁ d₂ p.quiet; good = no_error_right g₁ g₂ p.good; same = same_right τ g₁ g₂ w p.same }

module _ (S : Symbols) (τ : Choice) where
  -- a call's rule from its verdict
  ruled : (n : ℕ) (k : Callee) (xs : List Arg) → k.before ≡ [] → (resolve S k.overloads n xs).diags ≡ [] → Silent S n (some k) xs (resolve S k.overloads n xs).ty
  ruled n k xs p q = record { callee = k; list = refl; allowed = p; rule = λ i. record { ty = (resolve S k.overloads n xs).ty; diags = q i } }

  call_back : {n e : ℕ} (found : Option Callee) (b : RowJudged) (Z : List Arg → Type 0) (Ok : List Arg → Ty → Type 0)
      → Within b.typed (suc n) e → (Passed τ b.diags b.typed (suc n) e → Z b.args)
      → ((xs : List Arg) (T : Ty) → T ≢ error_ty → Silent S n found xs T → Ok xs T)
      → (p : Passed τ (call_step S n found b).diags (call_step S n found b).typed n e)
      → Has τ n (call_step S n found b).ty × WithArgs (λ xs. Ok xs (call_step S n found b).ty) Z
  unfolding call_step
  call_back {n} none b Z Ok w hZ law p = absurd ((done_has τ error_ty [] [] (within_empty w.ordered) p).real refl)
  call_back {n} {e} (some k) b Z Ok w hZ law p =
      let v = resolve S k.overloads n b.args in
      let h : Has τ n v.ty = done_has τ v.ty b.typed _ w p in
      let u : Passed τ (at n k.before ++ (b.diags ++ v.diags)) b.typed (suc n) e = done-under τ v.ty b.typed _ w p in
      let q : b.diags ++ v.diags ≡ [] = append_nil_right (at n k.before) _ u.quiet in (
        h,
        record {
          args = b.args;
          row = hZ (record { quiet = append_nil_left b.diags _ q; good = u.good; same = u.same });
          rule = law b.args v.ty h.real (ruled n k b.args (at_nil n k.before (append_nil_left _ _ u.quiet)) (append_nil_right b.diags _ q));
        },
      )

  method_back : {n m e : ℕ} (found : Option Callee) (a : Judged) (b : RowJudged) (X listed : Type 0) (Z : List Arg → Type 0) (Ok : List Arg → Ty → Type 0)
      → Within a.typed (suc n) m → Within b.typed m e
      → (Passed τ a.diags a.typed (suc n) m → X)
      → (Passed τ b.diags b.typed m e → Z b.args)
      → ((xs : List Arg) (T : Ty) → T ≢ error_ty → Silent S n found xs T → Ok xs T)
      → (found ≡ none → ¬ listed)
      → Passed τ (method_step S n a found b).diags (method_step S n a found b).typed n e
      → Has τ n (method_step S n a found b).ty × X × (WithArgs (λ xs. Ok xs (method_step S n a found b).ty) Z ⊎ NoCall listed (Unvisited τ m e) (method_step S n a found b).ty)
  unfolding method_step
  method_back {n} {m} {e} none a b X listed Z Ok w v hX hZ law ls q =
      let w' = within_wide a.typed w v.ordered in
      let u : Passed τ a.diags a.typed (suc n) e = done-under τ any_ty a.typed a.diags w' q in (
        done_has τ any_ty a.typed a.diags w' q,
        hX (record { quiet = u.quiet; good = u.good; same = λ k i j. u.same k i (omega (arith, v.ordered)) }),
        inr (record { unlisted = ls refl; is_any = refl; skipped = λ k i j. u.same k (omega (arith, w.ordered)) j ∙ w.above k i }),
      )
  method_back {n} {m} {e} (some k) a b X listed Z Ok w v hX hZ law ls q =
      let r = resolve S k.overloads n b.args in
      let wv = within_join a.typed b.typed w v in
      let h : Has τ n r.ty = done_has τ r.ty (a.typed ++ b.typed) _ wv q in
      let u : Passed τ (a.diags ++ (at n k.before ++ (b.diags ++ r.diags))) (a.typed ++ b.typed) (suc n) e = done-under τ r.ty (a.typed ++ b.typed) _ wv q in
      let d₁ : at n k.before ++ (b.diags ++ r.diags) ≡ [] = append_nil_right a.diags _ u.quiet in
      let d₂ : b.diags ++ r.diags ≡ [] = append_nil_right (at n k.before) _ d₁ in (
        h,
        hX (both_left τ a.diags _ a.typed b.typed v u),
        inl (record {
          args = b.args;
          row = hZ (record { quiet = append_nil_left b.diags _ d₂; good = no_error_right a.typed b.typed u.good; same = same_right τ a.typed b.typed w u.same });
          rule = law b.args r.ty h.real (ruled n k b.args (at_nil n k.before (append_nil_left _ _ d₁)) (append_nil_right b.diags _ d₂));
        }),
      )

module _ (S : Symbols) (H : Header) (τ : Choice) where
  mutual
    unfolding judge Typed number_after

    pub back : (x : Node) (n : ℕ) → Passed τ (judge S H x n).diags (judge S H x n).typed n (number_after x n) → Typed S H τ x n (judge S H x n).ty
    back (leaf t) n p = (done_has τ t [] [] (within_empty (omega arith)) p, refl)
    back (binary op l r) n p =
        let a = judge S H l (suc n) in
        let b = judge S H r (number_after l (suc n)) in
        let w = node_within S H l (suc n) in
        let v = node_within S H r (number_after l (suc n)) in
        let wv = within_join a.typed b.typed w v in
        let o = binary_out S op a.ty b.ty in
        let u = closed-under τ o (a.typed ++ b.typed) (a.diags ++ b.diags) wv p in (
          done_has τ o.ty (a.typed ++ b.typed) _ wv p,
          record {
            lt = a.ty;
            rt = b.ty;
            left = back l (suc n) (both_left τ a.diags b.diags a.typed b.typed v u);
            right = back r (number_after l (suc n)) (both_right τ a.diags b.diags a.typed b.typed w u);
            rule = closed_rule τ o (a.typed ++ b.typed) (a.diags ++ b.diags) p;
          },
        )
    back (unary op x) n p =
        let a = judge S H x (suc n) in
        let o = unary_out op a.ty in
        let w = node_within S H x (suc n) in
        (done_has τ o.ty a.typed _ w p, record { ot = a.ty; operand = back x (suc n) (closed-under τ o a.typed a.diags w p); rule = closed_rule τ o a.typed a.diags p })
    back (named id x) n p =
        let a = judge S H x (suc n) in
        let w = node_within S H x (suc n) in
        (done_has τ a.ty a.typed _ w p, back x (suc n) (done-under τ a.ty a.typed _ w p))
    back (member id x) n p =
        let a = judge S H x (suc n) in
        let o = member_out S H id a.ty in
        let w = node_within S H x (suc n) in
        (done_has τ o.ty a.typed _ w p, record { ot = a.ty; object = back x (suc n) (closed-under τ o a.typed a.diags w p); rule = closed_rule τ o a.typed a.diags p })
    back (call id r) n p =
        call_back S τ (call_of S H id) (judges S H r (suc n)) _ (CleanCall S H id) (row_within S H r (suc n)) (λ q. row_back r (suc n) q) (λ xs T h. (call_law S H id n xs T h).1) p
    back (method id x r) n p =
        let t = (judge S H x (suc n)).ty in
        let (h, o, c) = method_back S τ (method_of S H id t) (judge S H x (suc n)) (judges S H r (number_after x (suc n))) (Typed S H τ x (suc n) t) (HasList S id t) (RowTyped S H τ r (number_after x (suc n))) (CleanMethod S H id t)
        (node_within S H x (suc n)) (row_within S H r (number_after x (suc n))) (λ q. back x (suc n) q) (λ q. row_back r (number_after x (suc n)) q)
        (λ xs T g. (method_law S H id n t xs T g).1) (λ e l. some≢none (sym ((list_law S H id t).0 l).1 ∙ e)) p in
        (h, record { ot = t; object = o; rule = c })

    pub row_back : (r : Row) (n : ℕ) → Passed τ (judges S H r n).diags (judges S H r n).typed n (number_after_row r n) → RowTyped S H τ r n (judges S H r n).args
    row_back nil n p = refl
    row_back (cons x r) n p =
        let a = judge S H x n in
        let b = judges S H r (number_after x n) in
        record {
          ty = a.ty;
          rest = b.args;
          are = refl;
          first = back x n (both_left τ a.diags b.diags a.typed b.typed (row_within S H r (number_after x n)) p);
          others = row_back r (number_after x n) (both_right τ a.diags b.diags a.typed b.typed (node_within S H x n) p);
        }
