-- Answers and buffers are equal where two tables are accepted, have as many names and give equal judgements.
use Prim.Native.Nat.{ℕ}
use borrow.Author.Tests.{eqb-true, eq-eqb}
use lib.Dec.{eqb}
use mathlib.Core.Bool.{Bool, true, false}
use mathlib.Core.List.{List}
use mathlib.Core.Path.{◌≡◌, refl, ap, sym, ◌∙◌}
use Rattle.agreement.specs.SameAnswers.{SameAnswers}
use Rattle.area.specs.Diagnostic.{records}
use Rattle.question.specs.QuestionRefused.{question_fault}
use Rattle.question.specs.declared.Names.{Names}
use Rattle.record.specs.Table.{name_count, records_of}
use Rattle.record.specs.TableRefused.{table_fault}
use Rattle.ty.proofs.Choice.{choose_yes, choose_no}
use Rattle.ty.specs.Choose.{choose}
use Rattle.typing.specs.Answer.{Answer, answered, answer_of, buffer_of, fault_of, judgement_of, names_of, refused, zeros}
use Rattle.written.specs.Padding.{padded_to}

module _ (t u : List ℕ) (e : table_fault t ≡ 0) (f : table_fault u ≡ 0) (names : name_count (records_of t) ≡ name_count (records_of u)) (q : List ℕ) where
  accepted_fault : (v : List ℕ) → table_fault v ≡ 0 → fault_of v q ≡ question_fault (names_of v) q
  unfolding fault_of
  accepted_fault v z = choose_yes _ _ _ (eq-eqb (table_fault v) 0 z)

  same_names : names_of t ≡ names_of u
  same_names = λ i. record { count = names i }

  same_fault : fault_of t q ≡ fault_of u q
  same_fault = accepted_fault t e ∙ ap (λ (N : Names). question_fault N q) same_names ∙ sym (accepted_fault u f)

  pub same_answers : (question_fault (names_of t) q ≡ 0 → judgement_of t q ≡ judgement_of u q) → SameAnswers t u q
  unfolding answer_of buffer_of
  same_answers judged lent = go (eqb (fault_of t q) 0) refl
    where
      go : (b : Bool) → eqb (fault_of t q) 0 ≡ b → (answer_of t q lent ≡ answer_of u q lent) × (buffer_of t q lent ≡ buffer_of u q lent)
      go true p =
          let j : judgement_of t q ≡ judgement_of u q = judged (sym (accepted_fault t e) ∙ eqb-true (fault_of t q) 0 p) in
          let a : answer_of t q lent ≡ answer_of u q lent = λ i. choose (eqb (same_fault i) 0) (answered lent (j i)) (refused (same_fault i)) in
          (a, λ i. choose (eqb (a i).number 0) (padded_to lent (records (j i).diags)) (zeros lent))
      go false p =
          let p' : eqb (fault_of u q) 0 ≡ false = ap (λ (n : ℕ). eqb n 0) (sym same_fault) ∙ p in
          let x : answer_of t q lent ≡ refused (fault_of t q) = choose_no _ _ _ p in
          let y : answer_of u q lent ≡ refused (fault_of u q) = choose_no _ _ _ p' in
          let a : answer_of t q lent ≡ answer_of u q lent = x ∙ ap refused same_fault ∙ sym y in
          let k : buffer_of t q lent ≡ zeros lent = choose_no _ _ _ (ap (λ (z : Answer). eqb z.number 0) x ∙ p) in
          let l : buffer_of u q lent ≡ zeros lent = choose_no _ _ _ (ap (λ (z : Answer). eqb z.number 0) y ∙ p') in
          (a, k ∙ sym l)
