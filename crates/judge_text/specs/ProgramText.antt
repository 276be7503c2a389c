-- What the program prints for its input. Document 01, "Answer": it reads a 2-byte table length, table and question, lends a diagnostics buffer, and prints
-- "number, pass mark, type length, type .., count; then per diagnostic kind, node, number".
use Rattle.std.specs.Prelude.{ℕ, ◌≤◌, length, take, List}
use Rattle.console.specs.AnswerText.{printed}
use Rattle.console.specs.Input.{table_of, question_of}
use Rattle.typing.specs.Answer.{Answer, answer_of, buffer_of}

-- the text of an answer and its buffer; the type is the first bytes of its 256
unfoldable pub text_of : Answer → List ℕ → List ℕ
text_of a buffer = printed a.number a.pass (take a.len a.ty) a.count buffer

-- the text for a table and a question, where `lent` bytes are lent for diagnostics
unfoldable pub answer_text : List ℕ → List ℕ → ℕ → List ℕ
answer_text t q lent = text_of (answer_of t q lent) (buffer_of t q lent)

-- the text for an input
unfoldable pub input_text : List ℕ → ℕ → List ℕ
input_text input lent = answer_text (table_of input) (question_of input) lent

-- the diagnostics buffer for an input
abbrev pub input_buffer : List ℕ → ℕ → List ℕ
input_buffer input lent = buffer_of (table_of input) (question_of input) lent

-- "Its diagnostics buffer has 65,535 bytes."
abbrev pub program_buffer : ℕ
program_buffer = 65535

-- as many bytes as the program's text can have at most
abbrev pub longest_text : ℕ
longest_text = 210259

-- where no more is lent than the program lends, the text has no more bytes than that
abbrev pub Short : (ℕ → List ℕ) → ℕ → Type 0
Short text lent = lent ≤ program_buffer → length (text lent) ≤ longest_text
