-- The number of a refusal. Document 01, "Refused, and by whose doing".
use Rattle.std.specs.Prelude.{Result, Ok, Err, ℕ}
use Rattle.question.specs.declared.QuestionFault.TheVariants.{Malformed, ManyNodes, UndefinedId, EndlessType}
use Rattle.question.specs.declared.QuestionFault.{QuestionFault}

abbrev pub question_fault_number : QuestionFault → ℕ
question_fault_number Malformed = 8
question_fault_number ManyNodes = 9
question_fault_number UndefinedId = 10
question_fault_number EndlessType = 11

-- 0 for none
abbrev pub number_of : {T : Type 0} → Result T QuestionFault → ℕ
number_of (Ok x) = 0
number_of (Err fault) = question_fault_number fault
