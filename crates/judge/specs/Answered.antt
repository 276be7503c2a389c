-- The answer as document 01 has it, and what a call of the judge promises of it.
use Rattle.std.specs.Prelude.{ℕ, length, List, ◌≡◌, Result, Ok, Err}
use Rattle.judge.specs.RefusalNumber.{refusal_number}
use Rattle.judge.specs.declared.Answer.{Answer}
use Rattle.judge.specs.declared.Front.{Front}
use Rattle.judge.specs.declared.Judged.{Judged}
use Rattle.judge.specs.declared.refusal.Refusal.{Refusal}
use Rattle.question.specs.QuestionRefused.{question_fault}
use Rattle.record.specs.TableRefused.{table_fault}
use Rattle.typing.specs.Answer as of
use Rattle.typing.specs.Answer.{names_of, answer_of, buffer_of}
use Rattle.typing.specs.Demand3.{Demand3}
use Rattle.typing.specs.Mark.{mark_of}
use Rattle.ty.specs.Slice.{Slice, Borrowed}

-- number, pass mark, type in 256 bytes, its length, diagnostic count
abbrev pub answer_is : Answer → of.Answer
answer_is r = record { number = r.number; pass = r.pass; ty = r.ty; len = r.len; count = r.count }

-- an outcome with the bytes of its type
abbrev pub outcome_is : Result Judged Refusal → List ℕ → of.Answer
outcome_is (Ok r) ty = record { number = 0; pass = mark_of r.pass; ty = ty; len = r.len; count = r.count }
outcome_is (Err r) ty = record { number = refusal_number r; pass = 0; ty = ty; len = 0; count = 0 }

-- the answer with that front and a type
abbrev pub front_with : Front → List ℕ → of.Answer
front_with a ty = record { number = a.number; pass = a.pass; ty = ty; len = a.len; count = a.count }

-- the answer and the buffer afterwards are the definition's
pub record Answered (t q : List ℕ) (lent : ℕ) (r : of.Answer) (b : List ℕ) : Type 0 where
  pub answer : r ≡ answer_of t q lent
  pub buffer : b ≡ buffer_of t q lent

-- "An accepted table draws none of numbers 1 to 7; a question accepted under it draws none of the script's author's numbers"
pub record AcceptedUnder (t q : List ℕ) : Type 0 where
  pub table : table_fault t ≡ 0
  pub question : question_fault (names_of t) q ≡ 0

-- demand 3 speaks of accepted tables and of questions accepted under them
abbrev pub AcceptedDemand3 : List ℕ → List ℕ → ℕ → of.Answer → List ℕ → Type 0
AcceptedDemand3 t q lent r b = AcceptedUnder t q → Demand3 t q lent r b

-- P of a call: of the table's bytes, the question's, how many bytes the lent buffer has, the answer, and the buffer afterwards
abbrev pub OfCall : (List ℕ → List ℕ → ℕ → of.Answer → List ℕ → Type 0) → Slice → Slice → Borrowed → of.Answer → Type 0
OfCall P table question buffer r = P table question (length buffer.entry.now) r buffer.exit.now

-- the same where the 256 bytes of the answer's type are lent too
abbrev pub AnsweredInto : Slice → Slice → Borrowed → Borrowed → Result Judged Refusal → Type 0
AnsweredInto table question buffer ty r = OfCall Answered table question buffer (outcome_is r ty.exit.now)
