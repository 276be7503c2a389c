-- The type of every answer has 256 bytes, and its length counts some of them.
use Prim.Native.Nat.{ℕ, ◌*◌, ◌≤◌}
use borrow.Author.Tests.{ltb-false}
use lib.Dec.{ltb, eqb}
use lib.ListN.{length, length-append, length-replicate}
use mathlib.Core.Bool.{Bool, true, false}
use mathlib.Core.List.{List}
use mathlib.Core.Path.{◌≡◌, refl}
use native.Mathlib.Omega.{arith}
use Rattle.area.specs.Diagnostic.{record_length}
use Rattle.written.specs.Padding.{padded_to}
use Rattle.ty.specs.Choose.{choose}
use Rattle.typing.specs.Answer.{Answer, answer_bytes, fault_of, judgement_of, refused, given, answered, answer_of}
use Rattle.typing.specs.Judge.{Judged}

pub record Sized (a : Answer) : Type 0 where
  pub ty : length a.ty ≡ answer_bytes
  pub len : a.len ≤ answer_bytes

sized_refused : (n : ℕ) → Sized (refused n)
sized_refused n = record { ty = length-replicate {A = ℕ} answer_bytes 0; len = omega arith }

sized_given : (j : Judged) → length j.ty ≤ answer_bytes → Sized (given j)
unfolding padded_to
sized_given j h =
    record {
      ty = simp (length-append, length-replicate) (omega arith);
      len = h;
    }

sized_choice : (b : Bool) (x y : Answer) → Sized x → (b ≡ false → Sized y) → Sized (choose b x y)
unfolding choose
sized_choice true x y h g = h
sized_choice false x y h g = g refl

sized_answered : (lent : ℕ) (j : Judged) → Sized (answered lent j)
unfolding answered
sized_answered lent j =
    sized_choice (ltb answer_bytes (length j.ty)) (refused 13) _ (sized_refused 13)
    (λ e. sized_choice (ltb lent (record_length * length j.diags)) (refused 12) (given j) (sized_refused 12)
    (λ f. sized_given j (ltb-false answer_bytes (length j.ty) e)))

module _ (t q : List ℕ) (lent : ℕ) where
  pub sized : Sized (answer_of t q lent)
  unfolding answer_of
  sized = sized_choice (eqb (fault_of t q) 0) (answered lent (judgement_of t q)) (refused (fault_of t q)) (sized_answered lent (judgement_of t q)) (λ e. sized_refused (fault_of t q))
