-- What an answer is where its judgement passes, and what a mark of 1 says.
use Prim.Native.Nat.{ℕ, ◌*◌, ◌-◌, ◌≤◌}
use borrow.Author.Tests.{le-ltb, eq-eqb}
use lib.Dec.{ltb}
use lib.ListN.{length, replicate}
use mathlib.Core.Bool.{Bool, true, false}
use mathlib.Core.List.{List, []}
use mathlib.Core.Path.{◌≡◌, refl, ap, ◌∙◌}
use native.Mathlib.Omega.{arith}
use Rattle.area.specs.Diagnostic.{record_length, records}
use Rattle.written.specs.Padding.{padded_to}
use Rattle.question.specs.QuestionRefused.{question_fault}
use Rattle.record.specs.TableRefused.{table_fault}
use Rattle.ty.proofs.Choice.{and_left}
use Rattle.ty.specs.Choose.{choose}
use Rattle.typing.proofs.Base.{no_diag_nil}
use Rattle.typing.specs.Answer.{Answer, answer_bytes, zeros, names_of, fault_of, judgement_of, refused, given, answered, answer_of, buffer_of}
use Rattle.typing.specs.Demand3.{Passed}
use Rattle.typing.specs.Judge.{Judged}
use Rattle.typing.specs.Mark.{no_diag, no_error, passes, mark_of}

-- a judgement that passes, and whose type has at most 256 bytes, is answered so
pub passed_answer : (lent : ℕ) (j : Judged) → length j.ty ≤ answer_bytes → passes j ≡ true
    → answered lent j ≡ record { number = 0; pass = 1; ty = padded_to answer_bytes j.ty; len = length j.ty; count = 0 }
unfolding answered choose passes
passed_answer lent j h p =
    let d : j.diags ≡ [] = no_diag_nil j.diags (and_left (no_diag j.diags) (no_error j.typed) p) in
    let z : length j.diags ≡ 0 = rw d in
    let s : answered lent j ≡ given j = rw (le-ltb answer_bytes (length j.ty) h, le-ltb lent (record_length * length j.diags) (omega arith)) in
    s ∙ (λ i. record { number = 0; pass = mark_of (p i); ty = padded_to answer_bytes j.ty; len = length j.ty; count = z i })

-- nothing is written where nothing is reported
no_records : (lent : ℕ) (j : Judged) → passes j ≡ true → padded_to lent (records j.diags) ≡ zeros lent
unfolding passes records padded_to
no_records lent j p =
    let d : j.diags ≡ [] = no_diag_nil j.diags (and_left (no_diag j.diags) (no_error j.typed) p) in
    let y : lent - 0 ≡ lent = omega arith in
    ap (λ ds. padded_to lent (records ds)) d ∙ ap (λ (n : ℕ). replicate n 0) y

-- a mark of 1 says that the judgement passes
pub marked-passes : (lent : ℕ) (j : Judged) → (answered lent j).pass ≡ 1 → passes j ≡ true
unfolding answered choose
marked-passes lent j e = go (ltb answer_bytes (length j.ty)) (ltb lent (record_length * length j.diags)) (passes j) e
  where
    by : Bool → Answer
    by b = record { number = 0; pass = mark_of b; ty = padded_to answer_bytes j.ty; len = length j.ty; count = length j.diags }

    go : (a b c : Bool) → (choose a (refused 13) (choose b (refused 12) (by c))).pass ≡ 1 → c ≡ true
    go true b c q = absurd (omega arith)
    go false true c q = absurd (omega arith)
    go false false true q = refl
    go false false false q = absurd (omega arith)

module _ (t q : List ℕ) (lent : ℕ) where
  -- where table and question are accepted, the answer is the judgement's
  pub no_fault : table_fault t ≡ 0 → question_fault (names_of t) q ≡ 0 → fault_of t q ≡ 0
  unfolding fault_of choose
  no_fault e f = rw (eq-eqb (table_fault t) 0 e) f

  pub answer_judged : fault_of t q ≡ 0 → answer_of t q lent ≡ answered lent (judgement_of t q)
  unfolding answer_of choose
  answer_judged e = rw (eq-eqb (fault_of t q) 0 e)

  pub passed : fault_of t q ≡ 0 → length (judgement_of t q).ty ≤ answer_bytes → passes (judgement_of t q) ≡ true
      → ((answer_of t q lent).pass ≡ 1) × Passed (judgement_of t q).ty lent (answer_of t q lent) (buffer_of t q lent)
  unfolding buffer_of choose
  passed e h p =
      let j = judgement_of t q in
      let a : answer_of t q lent ≡ record { number = 0; pass = 1; ty = padded_to answer_bytes j.ty; len = length j.ty; count = 0 }
      = answer_judged e ∙ passed_answer lent j h p in
      let n : (answer_of t q lent).number ≡ 0 = ap (λ (z : Answer). z.number) a in (
        ap (λ (z : Answer). z.pass) a,
        record {
          number = n;
          ty = ap (λ (z : Answer). z.ty) a;
          len = ap (λ (z : Answer). z.len) a;
          count = ap (λ (z : Answer). z.count) a;
          buffer = rw (eq-eqb (answer_of t q lent).number 0 n) (no_records lent j p);
        },
      )
