-- The answer and the lent buffer, for any table bytes, question bytes and buffer length. Document 01, "Answer" and "Refused, and by whose doing": table first,
-- then the question; 13, then 12. All refusals answer pass mark 0, length 0, count 0, zeros everywhere.
use Rattle.std.specs.Prelude.{ℕ, ◌*◌, eqb, ltb, length, replicate, List}
use Rattle.area.specs.Diagnostic.{record_length, records}
use Rattle.written.specs.Padding.{padded_to}
use Rattle.question.specs.Header.{header_of}
use Rattle.question.specs.Parse.{tree_of}
use Rattle.question.specs.QuestionRefused.{question_fault}
use Rattle.question.specs.declared.Names.{Names}
use Rattle.symbol.specs.Lookup.{symbols_of}
use Rattle.record.specs.TableRefused.{table_fault}
use Rattle.record.specs.Table.{records_of, name_count}
use Rattle.ty.specs.Choose.{choose}
use Rattle.typing.specs.Judge.{Judged, judge}
use Rattle.typing.specs.Mark.{passes, mark_of}

-- number, pass mark, type in 256 bytes with zeros behind its length, that length, diagnostic count
pub record Answer : Type 0 where
  pub number : ℕ
  pub pass : ℕ
  pub ty : List ℕ
  pub len : ℕ
  pub count : ℕ

-- how many bytes an answer's type has
abbrev pub answer_bytes : ℕ
answer_bytes = 256

abbrev pub zeros : ℕ → List ℕ
zeros n = replicate n 0

-- what a question asks of a table's names
abbrev pub names_of : List ℕ → Names
names_of t = record { count = name_count (records_of t) }

-- the number that a table and a question draw before anything is judged, 0 for none
unfoldable pub fault_of : List ℕ → List ℕ → ℕ
fault_of t q = choose (eqb (table_fault t) 0) (question_fault (names_of t) q) (table_fault t)

-- the judgement of a question's tree under a table
abbrev pub judgement_of : List ℕ → List ℕ → Judged
judgement_of t q = judge (symbols_of t) (header_of q) (tree_of q) 0

abbrev pub refused : ℕ → Answer
refused number = record { number = number; pass = 0; ty = zeros answer_bytes; len = 0; count = 0 }

abbrev pub given : Judged → Answer
given j =
    record { number = 0; pass = mark_of (passes j); ty = padded_to answer_bytes j.ty; len = length j.ty; count = length j.diags }

-- 13 root type over 256 bytes; 12 exactly when 5 × diagnostics exceeds the buffer
unfoldable pub answered : ℕ → Judged → Answer
answered lent j =
    choose (ltb answer_bytes (length j.ty)) (refused 13)
    (choose (ltb lent (record_length * length j.diags)) (refused 12) (given j))

unfoldable pub answer_of : List ℕ → List ℕ → ℕ → Answer
answer_of t q lent = choose (eqb (fault_of t q) 0) (answered lent (judgement_of t q)) (refused (fault_of t q))

-- the buffer afterwards: the diagnostics and zeros behind them, or all zero where the answer is a refusal
unfoldable pub buffer_of : List ℕ → List ℕ → ℕ → List ℕ
buffer_of t q lent = choose (eqb (answer_of t q lent).number 0) (padded_to lent (records (judgement_of t q).diags)) (zeros lent)
