-- Demand 1: "Malformed or too long tables and questions, and diagnostics that don't fit the lent buffer, are refused by document 01's number, with type length
-- 0 and that buffer all zero. It ends on every input."
-- Here of an answer a and a buffer b afterwards, where `lent` bytes were lent, for any bytes of a table t and a question q.
use Rattle.std.specs.Prelude.{ℕ, ◌*◌, ◌≤◌, ◌<◌, length, List, ◌≢◌, ◌↔◌, ◌≡◌}
use Rattle.area.specs.Diagnostic.{record_length}
use Rattle.question.specs.QuestionRefused.{question_fault}
use Rattle.record.specs.TableRefused.{table_fault}
use Rattle.typing.specs.Answer.{Answer, answer_bytes, zeros, names_of, judgement_of}

pub record Demand1 (t q : List ℕ) (lent : ℕ) (a : Answer) (b : List ℕ) : Type 0 where
  -- 0 exactly when both are accepted, the root type has at most 256 bytes and the diagnostics fit the buffer
  pub zero : (a.number ≡ 0)
      ↔ ((table_fault t ≡ 0) × (question_fault (names_of t) q ≡ 0) × (length (judgement_of t q).ty ≤ answer_bytes)
      × (record_length * length (judgement_of t q).diags ≤ lent))
  -- the table's number comes first, then the question's
  pub table : table_fault t ≢ 0 → a.number ≡ table_fault t
  pub question : table_fault t ≡ 0 → question_fault (names_of t) q ≢ 0 → a.number ≡ question_fault (names_of t) q
  -- 13 exactly when both are accepted and the root type has over 256 bytes
  pub thirteen : (a.number ≡ 13) ↔ ((table_fault t ≡ 0) × (question_fault (names_of t) q ≡ 0) × (answer_bytes < length (judgement_of t q).ty))
  -- and that is never: the root type has at most 192 bytes and one for each node, of which there are at most 64
  pub never : a.number ≢ 13
  -- 12 exactly when both are accepted, 13 is not drawn, and 5 × diagnostics exceeds the buffer
  pub twelve : (a.number ≡ 12)
      ↔ ((table_fault t ≡ 0) × (question_fault (names_of t) q ≡ 0) × (length (judgement_of t q).ty ≤ answer_bytes)
      × (lent < record_length * length (judgement_of t q).diags))
  -- where the number is not 0, mark, length and count are 0, and the 256 bytes and the whole buffer are zero
  pub pass : a.number ≢ 0 → a.pass ≡ 0
  pub len : a.number ≢ 0 → a.len ≡ 0
  pub count : a.number ≢ 0 → a.count ≡ 0
  pub ty : a.number ≢ 0 → a.ty ≡ zeros answer_bytes
  pub buffer : a.number ≢ 0 → b ≡ zeros lent
