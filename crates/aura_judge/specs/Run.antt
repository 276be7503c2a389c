-- What a run of the program writes. Document 01, "Answer".
use Rattle.std.specs.Prelude.{ℕ, List, Option, Some, None, ⊤}
use Rattle.std.specs.Io.KnownBytes.{Appends}
use Rattle.console.specs.Input.{Bytes}
use Rattle.judge_text.specs.ProgramText.{input_text, program_buffer}

-- where the bytes that are to be read are known, the text for all of them is written behind what was written before
abbrev pub Answers : Option (List ℕ) → Option (List ℕ) → Option (List ℕ) → Type 0
Answers None before after = ⊤
Answers (Some input) before after = Bytes input → Appends before after (input_text input program_buffer)
