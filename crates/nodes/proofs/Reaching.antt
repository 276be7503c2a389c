-- Laws of how far a judgement is: one way behind another.
use Prim.Native.Nat.{ℕ, ◌+◌}
use lib.ListN.{length}
use mathlib.Core.Bool.{Bool, true, false, not, ◌&&◌}
use mathlib.Core.List.{List, [], ◌∷◌, ◌++◌}
use mathlib.Core.Path.{◌≡◌, refl, sym, ap, ◌∙◌}
use Rattle.area.proofs.Reporting.{reported_none, reported_both, reported_more}
use Rattle.area.specs.Diagnostic.{Diag}
use Rattle.area.specs.declared.reports.Reports.{Reports}
use Rattle.nodes.specs.Inside.Progress.{inside_of, Reached}
use Rattle.nodes.specs.declared.progress.State.{State}
use Rattle.operators.specs.Out.{error_ty}
use Rattle.ty.specs.Bytes.{same_bytes}
use Rattle.typing.specs.Judge.{Given}
use Rattle.typing.specs.Mark.{no_error}

pub and_true : (b : Bool) → b && true ≡ b
and_true true = refl
and_true false = refl

and_assoc : (a b c : Bool) → a && (b && c) ≡ (a && b) && c
and_assoc true b c = refl
and_assoc false b c = refl

no_error-append : (g h : List Given) → no_error (g ++ h) ≡ no_error g && no_error h
unfolding no_error
no_error-append [] h = refl
no_error-append (x ∷ g) h =
    let n : Bool = not (same_bytes x.ty error_ty) in
    ap (λ (b : Bool). n && b) (no_error-append g h) ∙ and_assoc n (no_error g) (no_error h)

pub state_path : (x y : State) → x.at ≡ y.at → x.node ≡ y.node → x.fine ≡ y.fine → x ≡ y
state_path x y a b c = λ i. record { at = a i; node = b i; fine = c i }

-- nothing has happened
pub reached_here : (s : State) (b : Reports) → Reached s s.at s.node [] [] b b s
unfolding no_error
reached_here s b = record { result = state_path _ _ refl refl (sym (and_true s.fine)); reports = sym (reported_none b) }

-- how many have been reported
pub reached_count : {s r : State} {at n : ℕ} {g : List Given} {ds : List Diag} {b b₁ : Reports} → Reached s at n g ds b b₁ r → b₁.count ≡ b.count + length ds
reached_count {ds = ds} {b = b} x = reported_more b ds x.reports

module _ {s e r : State} {at₁ n₁ at₂ n₂ : ℕ} {g₁ g₂ : List Given} {d₁ d₂ : List Diag} {b b₁ b₂ : Reports} where
  pub reached_join : Reached s at₁ n₁ g₁ d₁ b b₁ e → Reached e at₂ n₂ g₂ d₂ b₁ b₂ r → Reached s at₂ n₂ (g₁ ++ g₂) (d₁ ++ d₂) b b₂ r
  reached_join x y =
      let fine : e.fine ≡ s.fine && no_error g₁ = ap (λ (z : State). z.fine) x.result in
      let f : e.fine && no_error g₂ ≡ s.fine && no_error (g₁ ++ g₂)
      = ap (λ (z : Bool). z && no_error g₂) fine ∙ sym (and_assoc s.fine (no_error g₁) (no_error g₂))
      ∙ ap (λ (z : Bool). s.fine && z) (sym (no_error-append g₁ g₂)) in
      record { result = y.result ∙ state_path _ _ refl refl f; reports = reported_both b d₁ d₂ x.reports y.reports }

-- a child's way is the node's
pub reached_inside : {s s₁ r : State} (own : ℕ) {at n : ℕ} {g : List Given} {d : List Diag} {b b₁ : Reports} → s₁ ≡ inside_of s own → Reached s₁ at n g d b b₁ r → Reached s at n g d b b₁ r
reached_inside {s} {s₁} own e x =
    let fine : s₁.fine ≡ s.fine = ap (λ (z : State). z.fine) e in
    record { result = rw fine at x.result; reports = x.reports }

-- the same position and number otherwise written
pub reached_as : {s r : State} {at at₁ n n₁ : ℕ} {g g₁ : List Given} {d d₁ : List Diag} {b b₁ : Reports} → at ≡ at₁ → n ≡ n₁ → g ≡ g₁ → d ≡ d₁ → Reached s at n g d b b₁ r → Reached s at₁ n₁ g₁ d₁ b b₁ r
reached_as e f g h x = rw (← e, ← f, ← g, ← h) x
