-- The number of a refusal. Document 01, "Refused, and by whose doing".
use Rattle.std.specs.Prelude.{ℕ}
use Rattle.judge.specs.declared.refusal.Refusal.{Refusal}
use Rattle.judge.specs.declared.refusal.Refusal.TheVariants.{Table, Question, TypeTooLong, ShortBuffer}
use Rattle.question.specs.FaultNumber.{question_fault_number}
use Rattle.symbol.specs.TableFault.{table_fault_number}

-- 1 to 7 the table's, 8 to 11 the question's, 12 a buffer that is too short, 13 a root type over 256 bytes
abbrev pub refusal_number : Refusal → ℕ
refusal_number (Table fault) = table_fault_number fault
refusal_number (Question fault) = question_fault_number fault
refusal_number ShortBuffer = 12
refusal_number TypeTooLong = 13
