-- What is read into the program's buffer draws the text of the whole input.
use Prim.Native.Nat.{ℕ, ◌≤◌, ◌<◌}
use borrow.Author.Tests.{ltb-true, ltb-false}
use lib.Dec.{ltb}
use lib.ListN.{length, take}
use lib.Seq.{length-take-le, take_all, take_at}
use mathlib.Core.Bool.{Bool, true, false}
use mathlib.Core.List.{List, [], ◌∷◌, ◌++◌, append-nil}
use mathlib.Core.Path.{◌≡◌, refl, sym, ap, ◌∙◌, subst}
use native.Mathlib.Omega.{arith}
use Rattle.std.specs.Prelude.{Option, Some, None, Result, Ok, Err, OnOk}
use Rattle.std.specs.Io.KnownBytes.{Consumes, IsAtEnd, Appends}
use Rattle.aura_judge.specs.Run.{Answers}
use Rattle.console.specs.Input.{Bytes, input_limit}
use Rattle.judge_text.proofs.Long.{text_kept}
use Rattle.judge_text.specs.ProgramText.{input_text, program_buffer, longest_text, Short}

-- where a call succeeds
pub on_ok : {T E : Type 0} {P Q : Type 0} (r : Result T E) → (P → Q) → OnOk r P → OnOk r Q
on_ok (Ok x) f h = f h
on_ok (Err e) f h = h

-- the text of what was read is that of all that there was
module _ (buf : List ℕ) (n : ℕ) (size : length buf ≡ input_limit) (within : n ≤ length buf) where
  same_text : (xs ys : List ℕ) → xs ≡ take n buf ++ ys → (n < length buf → ys ≡ []) → Bytes xs → input_text (take n buf) program_buffer ≡ input_text xs program_buffer
  same_text xs ys e end bytes = go (ltb n (length buf)) refl
    where
      go : (b : Bool) → ltb n (length buf) ≡ b → input_text (take n buf) program_buffer ≡ input_text xs program_buffer
      go true t =
          let f : xs ≡ take n buf = e ∙ ap (λ (z : List ℕ). take n buf ++ z) (end (ltb-true n (length buf) t)) ∙ append-nil (take n buf) in
          ap (λ (z : List ℕ). input_text z program_buffer) (sym f)
      go false t =
          let m : length (take n buf) ≡ input_limit = omega (arith, length-take-le n buf within, ltb-false n (length buf) t) in
          let f : take input_limit xs ≡ take n buf = ap (take input_limit) e ∙ take_at (take n buf) ys input_limit m in
          ap (λ (z : List ℕ). input_text z program_buffer) (sym f) ∙ text_kept xs bytes program_buffer

  pub answers : (before after old new : Option (List ℕ)) → Consumes old new (take n buf) → (n < length buf → IsAtEnd new)
      → length (input_text (take n buf) program_buffer) ≤ longest_text → Appends before after (take longest_text (input_text (take n buf) program_buffer))
      → Answers old before after
  answers before after None new c end short w = tt
  answers before after (Some xs) None c end short w = absurd c
  answers before after (Some xs) (Some ys) c end short w =
      λ bytes.
      let t = input_text (take n buf) program_buffer in
      let f : take longest_text t ≡ input_text xs program_buffer = take_all longest_text t short ∙ same_text xs ys c end bytes in
      subst (λ (z : List ℕ). Appends before after z) f w
