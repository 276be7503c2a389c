-- What the program asks of a case: whether the judge's text is the one expected.
use Rattle.std.specs.Prelude.{◌≤◌, ℕ, length, take, Bool, List, ◌≡◌}
use Rattle.judge_text.specs.ProgramText.{answer_text, program_buffer, longest_text}
use Rattle.ty.specs.Bytes.{same_bytes}

-- whether what fits into `room` bytes of the text for a table and a question is what is expected, where `lent` bytes are lent for diagnostics
unfoldable pub agreement : List ℕ → List ℕ → List ℕ → ℕ → ℕ → Bool
agreement table question expected lent room = same_bytes (take room (answer_text table question lent)) expected

-- r says whether the text for a table and a question is the one expected, where a buffer no longer than the program's is lent and the text has room
abbrev pub Agreement : List ℕ → List ℕ → List ℕ → List ℕ → List ℕ → Bool → Type 0
Agreement table question expected lent room r =
    length lent ≤ program_buffer → longest_text ≤ length room → r ≡ same_bytes (answer_text table question (length lent)) expected
