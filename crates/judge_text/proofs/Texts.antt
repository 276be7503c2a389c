-- From what the calls say to the text.
use Prim.Native.Nat.{ℕ, ◌≤◌, ◌<◌, ◌^◌}
use lib.ListN.{length, take, length-take}
use lib.Seq.{length-take-le}
use mathlib.Core.List.{List}
use mathlib.Core.Path.{◌≡◌, sym, ap, ◌∙◌, subst}
use native.Mathlib.Omega.{arith}
use Rattle.console.proofs.TextSizes.{printed_short}
use Rattle.console.specs.AnswerText.{printed}
use Rattle.console.specs.Buffer.{Counts, Filled}
use Rattle.console.specs.Input.{table_of, question_of, Bytes}
use Rattle.judge_text.specs.ProgramText.{text_of, answer_text, input_text, input_buffer, program_buffer, longest_text, Short}
use Rattle.typing.proofs.Sized.{Sized, sized}
use Rattle.typing.specs.Answer.{Answer, answer_of, buffer_of}

module _ (t q : List ℕ) (lent : ℕ) (a : Answer) (e : a ≡ answer_of t q lent) where
  sized_as : Sized a
  sized_as = subst (λ (x : Answer). Sized x) (sym e) (sized t q lent)

  -- the length counts bytes of the type's 256
  pub counted : Counts a.len a.ty
  counted =
      let s : Sized a = sized_as in
      let h : a.len ≤ length a.ty = rw s.ty s.len in
      (h, sym (length-take-le a.len a.ty h))

  module _ (d : List ℕ) (f : d ≡ buffer_of t q lent) where
    text_as : text_of a d ≡ answer_text t q lent
    unfolding answer_text
    text_as = ap (λ (x : Answer). text_of x d) e ∙ ap (λ (x : List ℕ). text_of (answer_of t q lent) x) f

    -- what is put into the buffer is the answer's text
    pub filled_text : {b b' : List ℕ} {r : ℕ} → Filled b b' r (printed a.number a.pass (take a.len a.ty) a.count d)
        → Filled b b' r (answer_text t q lent)
    unfolding text_of
    filled_text {b} {b'} {r} w = subst (λ (x : List ℕ). Filled b b' r x) text_as w

    -- an answer in bytes has a short text
    pub text_short : a.number < 256 → a.pass < 256 → a.count < 2 ^ 64 → Bytes d → length d ≤ program_buffer → length (answer_text t q lent) ≤ longest_text
    unfolding text_of
    text_short g h k bytes n =
        let s : Sized a = sized_as in
        let m : length (take a.len a.ty) ≤ 256 = omega (arith, length-take a.len a.ty, s.len) in
        subst (λ (x : List ℕ). length x ≤ longest_text) text_as
        (printed_short a.number a.pass (take a.len a.ty) a.count d g h m (omega arith) bytes n)

-- what is said of a table and a question: the text in a buffer, that it is short, and the diagnostics buffer
abbrev Told : List ℕ → List ℕ → ℕ → List ℕ → List ℕ → ℕ → List ℕ → Type 0
Told t q lent b b' r d = Filled b b' r (answer_text t q lent) × (Short (answer_text t q) lent × (d ≡ buffer_of t q lent))

-- what is said of an input's parts is said of the input
pub told_input : (input t q : List ℕ) {lent : ℕ} {b b' : List ℕ} {r : ℕ} {d : List ℕ} → t ≡ table_of input → q ≡ question_of input → Told t q lent b b' r d
    → Filled b b' r (input_text input lent) × (Short (input_text input) lent × (d ≡ input_buffer input lent))
unfolding input_text
told_input input t q {lent} {b} {b'} {r} {d} e f h =
    subst (λ (x : List ℕ). Told (table_of input) x lent b b' r d) f (subst (λ (x : List ℕ). Told x q lent b b' r d) e h)
