-- Of a longer input the first 81,922 bytes draw the same answer, and so the same text.
use Prim.Native.Nat.{ℕ, ◌<◌}
use borrow.Author.Tests.{lt-ltb, ltb-true, ltb-false}
use lib.Dec.{ltb, eqb}
use lib.ListN.{length, take}
use mathlib.Core.Bool.{Bool, true, false}
use mathlib.Core.List.{List}
use mathlib.Core.Path.{◌≡◌, refl, sym, ap, ◌∙◌}
use Rattle.area.specs.Diagnostic.{records}
use Rattle.written.specs.Padding.{padded_to}
use Rattle.console.proofs.InputParts.{table_kept, question_kept, question_long}
use Rattle.console.specs.Input.{table_of, question_of, Bytes, input_limit}
use Rattle.judge_text.specs.ProgramText.{text_of, answer_text, input_text}
use Rattle.question.specs.QuestionRefused.{longest_question, question_fault}
use Rattle.record.specs.TableRefused.{table_fault}
use Rattle.ty.proofs.Choice.{chosen, passed}
use Rattle.ty.specs.Choose.{choose}
use Rattle.typing.specs.Answer.{Answer, zeros, fault_of, judgement_of, refused, answered, answer_of, buffer_of}

-- the number that a table draws beside an over-long question: its own, else 8
abbrev pub drawn : List ℕ → ℕ
drawn t = choose (eqb (table_fault t) 0) 8 (table_fault t)

drawn_some : (t : List ℕ) → eqb (drawn t) 0 ≡ false
unfolding choose
drawn_some t = go (eqb (table_fault t) 0) refl
  where
    go : (b : Bool) → eqb (table_fault t) 0 ≡ b → eqb (choose b 8 (table_fault t)) 0 ≡ false
    go true e = refl
    go false e = e

module _ (t q : List ℕ) (lent : ℕ) (long : longest_question < length q) where
  long_fault : fault_of t q ≡ drawn t
  unfolding fault_of question_fault
  long_fault =
      ap (λ (x : ℕ). choose (eqb (table_fault t) 0) x (table_fault t))
      (sym (chosen (ltb longest_question (length q)) 8 8 _ (lt-ltb longest_question (length q) long) refl))

  -- "8 over 16,384 bytes", whatever the bytes are
  pub long_answer : answer_of t q lent ≡ refused (drawn t)
  unfolding answer_of
  long_answer =
      let e : eqb (fault_of t q) 0 ≡ false = rw long_fault (drawn_some t) in
      sym (passed (eqb (fault_of t q) 0) (refused (drawn t)) (answered lent (judgement_of t q)) (refused (fault_of t q)) e (ap refused (sym long_fault)))

  pub long_buffer : buffer_of t q lent ≡ zeros lent
  unfolding buffer_of
  long_buffer =
      let e : eqb (answer_of t q lent).number 0 ≡ false = rw long_answer (drawn_some t) in
      sym (passed (eqb (answer_of t q lent).number 0) (zeros lent) (padded_to lent (records (judgement_of t q).diags)) (zeros lent) e refl)

module _ (input : List ℕ) (bytes : Bytes input) where
  abbrev kept : List ℕ
  kept = take input_limit input

  -- what depends on a table and, of an over-long question, on nothing but that, is the same
  kept_same : {A : Type 0} (f : List ℕ → List ℕ → A) → ((t q s : List ℕ) → longest_question < length q → longest_question < length s → f t q ≡ f t s)
      → f (table_of kept) (question_of kept) ≡ f (table_of input) (question_of input)
  kept_same f alike =
      ap (λ (x : List ℕ). f x (question_of kept)) (table_kept input bytes) ∙ go (ltb longest_question (length (question_of input))) refl
    where
      go : (b : Bool) → ltb longest_question (length (question_of input)) ≡ b → f (table_of input) (question_of kept) ≡ f (table_of input) (question_of input)
      go true e =
          let h : longest_question < length (question_of input) = ltb-true longest_question (length (question_of input)) e in
          alike (table_of input) (question_of kept) (question_of input) ((question_long input bytes).1 h) h
      go false e =
          ap (λ (x : List ℕ). f (table_of input) x) (question_kept input bytes (ltb-false longest_question (length (question_of input)) e))

  -- the answer and the buffer
  pub answer_kept : (lent : ℕ) → answer_of (table_of kept) (question_of kept) lent ≡ answer_of (table_of input) (question_of input) lent
  answer_kept lent = kept_same (λ t q. answer_of t q lent) (λ t q s g h. long_answer t q lent g ∙ sym (long_answer t s lent h))

  pub buffer_kept : (lent : ℕ) → buffer_of (table_of kept) (question_of kept) lent ≡ buffer_of (table_of input) (question_of input) lent
  buffer_kept lent = kept_same (λ t q. buffer_of t q lent) (λ t q s g h. long_buffer t q lent g ∙ sym (long_buffer t s lent h))

  -- and the text
  pub text_kept : (lent : ℕ) → input_text kept lent ≡ input_text input lent
  unfolding input_text answer_text
  text_kept lent =
      ap (λ (x : Answer). text_of x (buffer_of (table_of kept) (question_of kept) lent)) (answer_kept lent)
      ∙ ap (λ (x : List ℕ). text_of (answer_of (table_of input) (question_of input) lent) x) (buffer_kept lent)
