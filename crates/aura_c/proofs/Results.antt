-- From what the calls say to what a caller from C is told.
use Prim.Native.Nat.{ℕ, ◌≤◌, ◌<◌}
use borrow.Author.Tests.{lt-ltb, le-ltb}
use lib.Dec.{ltb}
use lib.ListN.{length, take, drop, replicate, length-replicate}
use lib.Seq.{sets}
use mathlib.Core.Bool.{true, false}
use mathlib.Core.List.{List, [], ◌++◌}
use mathlib.Core.Path.{◌≡◌, refl, sym, ap, ◌∙◌, subst}
use Rattle.aura_c.proofs.Stored.{joined}
use Rattle.aura_c.specs.AnswerBytes.{bytes_of, answer_size, answer_too_short, result_of, answer_slice, diagnostics_slice}
use Rattle.judge.proofs.Fronts.{front_typed}
use Rattle.judge.specs.Answered.{outcome_is, front_with}
use Rattle.judge.specs.declared.Front.{Front}
use Rattle.judge.specs.declared.Judged.{Judged}
use Rattle.judge.specs.declared.refusal.Refusal.{Refusal}
use Rattle.std.proofs.Common.{Result}
use Rattle.ty.proofs.Choice.{chosen, passed}
use Rattle.typing.proofs.Sized.{Sized, sized}
use Rattle.typing.specs.Answer.{Answer, zeros, answer_of, buffer_of}
use Rattle.written.specs.Padding.{padded_to}

pub cleared_length : {z : List ℕ} (b : List ℕ) → z ≡ replicate (length b) 0 → length z ≡ length b
cleared_length b e = ap length e ∙ length-replicate {A = ℕ} (length b) 0

-- what is told of a table and a question: the result, the answer slice and the diagnostics
abbrev Told : List ℕ → List ℕ → ℕ → ℕ → ℕ → List ℕ → List ℕ → Type 0
Told t q lent room r b d = (r ≡ result_of t q lent room) × ((b ≡ answer_slice t q lent room) × (d ≡ diagnostics_slice t q lent room))

module _ (t q : List ℕ) (lent room : ℕ) where
  pub told_short : {b d : List ℕ} → room < answer_size → b ≡ replicate room 0 → d ≡ replicate lent 0 → Told t q lent room answer_too_short b d
  unfolding result_of answer_slice diagnostics_slice
  told_short {b} {d} h e f =
      let k : ltb room answer_size ≡ true = lt-ltb room answer_size h in
      (chosen _ answer_too_short answer_too_short _ k refl, (chosen _ b (zeros room) _ k e, chosen _ d (zeros lent) _ k f))

  pub told : {b d z : List ℕ} (a : Front) (r : Result Judged Refusal) (ty : List ℕ) → answer_size ≤ room → front_with a [] ≡ outcome_is r [] → outcome_is r ty ≡ answer_of t q lent → z ≡ replicate room 0
      → b ≡ sets (take 12 z ++ (ty ++ drop 256 (drop 12 z))) 0 (bytes_of (front_with a [])) → d ≡ buffer_of t q lent → Told t q lent room a.number b d
  unfolding result_of answer_slice diagnostics_slice
  told {b} {d} {z} a r ty h o i g f k =
      let e : front_with a ty ≡ answer_of t q lent = front_typed a r ty o ∙ i in
      let w : ltb room answer_size ≡ false = le-ltb room answer_size h in
      let s : Sized (front_with a ty) = subst (λ (x : Answer). Sized x) (sym e) (sized t q lent) in
      let p : b ≡ padded_to room (bytes_of (front_with a ty)) = joined room a ty h s.ty g f in (
        passed _ a.number _ (answer_of t q lent).number w (ap (λ (x : Answer). x.number) e),
        (
          passed _ b _ (padded_to room (bytes_of (answer_of t q lent))) w (p ∙ ap (λ (x : Answer). padded_to room (bytes_of x)) e),
          passed _ d _ (buffer_of t q lent) w k,
        ),
      )
