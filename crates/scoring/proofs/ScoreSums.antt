-- Sums of scores.
use Prim.Native.Nat.{ℕ, ◌+◌}
use mathlib.Core.Path.{◌≡◌, refl, sym, ap, ◌∙◌}
use mathlib.Core.Option.{Option, none, some}
use native.Mathlib.Omega.{arith}
use Rattle.scoring.specs.Score.{plus}
use Rattle.scoring.proofs.NoneAndNil.{some≢none}

pub plus_zero : (a : Option ℕ) → plus (some 0) a ≡ a
unfolding plus
plus_zero none = refl
plus_zero (some a) = let e : 0 + a ≡ a = omega arith in ap some e

pub plus_none_more : (a : Option ℕ) → plus a (some 0) ≡ a
unfolding plus
plus_none_more none = refl
plus_none_more (some a) = let e : a + 0 ≡ a = omega arith in ap some e

pub plus_assoc : (a b c : Option ℕ) → plus (plus a b) c ≡ plus a (plus b c)
unfolding plus
plus_assoc none b c = refl
plus_assoc (some a) none c = refl
plus_assoc (some a) (some b) none = refl
plus_assoc (some a) (some b) (some c) = let e : a + b + c ≡ a + (b + c) = omega arith in ap some e

plus_comm : (a b : Option ℕ) → plus a b ≡ plus b a
unfolding plus
plus_comm none none = refl
plus_comm none (some b) = refl
plus_comm (some a) none = refl
plus_comm (some a) (some b) = let e : a + b ≡ b + a = omega arith in ap some e

pub plus_swap : (a b c d : Option ℕ) → plus (plus a b) (plus c d) ≡ plus (plus a c) (plus b d)
plus_swap a b c d =
    plus_assoc a b (plus c d)
    ∙ ap (λ (z : Option ℕ). plus a z) (sym (plus_assoc b c d) ∙ ap (λ (z : Option ℕ). plus z d) (plus_comm b c) ∙ plus_assoc c b d)
    ∙ sym (plus_assoc a c (plus b d))

pub plus-left : (a b : Option ℕ) (s : ℕ) → plus a b ≡ some s → (x : ℕ) × (a ≡ some x)
unfolding plus
plus-left none b s e = absurd (some≢none (sym e))
plus-left (some a) b s e = (a, refl)

pub plus_right : (a b : Option ℕ) (s : ℕ) → plus a b ≡ some s → (x : ℕ) × (b ≡ some x)
unfolding plus
plus_right none b s e = absurd (some≢none (sym e))
plus_right (some a) none s e = absurd (some≢none (sym e))
plus_right (some a) (some b) s e = (b, refl)
