-- What is accepted and cleared before a question is judged.
use Rattle.std.specs.Prelude.{ℕ, length, List, ◌≡◌}
use Rattle.question.specs.QuestionRefused.{question_fault}
use Rattle.nodes.specs.Inside.SlotsFilled.{SlotsFilled}
use Rattle.record.specs.TableRefused.{table_fault}
use Rattle.symbol.specs.Inside.IndexMade.{index_made}
use Rattle.ty.specs.Bytes.{Ty}
use Rattle.ty.specs.Slice.{Slice, Borrowed}
use Rattle.typing.specs.Answer.{answer_bytes, names_of, judgement_of, zeros}

-- the lent buffer and the type's bytes are all zero
pub record Clear (b ty : List ℕ) : Type 0 where
  pub buffer : b ≡ zeros (length b)
  pub blank : ty ≡ zeros answer_bytes

-- the table and the question are accepted, and the lent bytes are all zero
pub record Ready (t q b ty : List ℕ) : Type 0 where
  pub table : table_fault t ≡ 0
  pub question : question_fault (names_of t) q ≡ 0
  pub clear : Clear b ty

-- what is left in the slots that are lent to judge a question: the types of the nodes that its judgement finishes, in that order
abbrev pub JudgedIn : Slice → Slice → List Ty → List Ty → Type 0
JudgedIn table question ts ts' = SlotsFilled ts ts' (judgement_of table question).typed

-- what is left in the index that is lent for the table: what its check makes of it
abbrev pub IndexedIn : Slice → Borrowed → Type 0
IndexedIn table index = index.exit.now ≡ index_made table index.entry.now
