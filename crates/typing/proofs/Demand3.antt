-- Demand 3, for every table and question in bytes that are accepted, whatever buffer is lent.
use Rattle.question.proofs.Accepted.{accepted, accepted_fits}
use Rattle.typing.proofs.Answers.{no_fault}
use Rattle.typing.proofs.Promise.{promise}
use Rattle.typing.proofs.Tables.{symbols_fit}
use Rattle.typing.specs.Answer.{names_of, answer_of, buffer_of}
use Rattle.typing.specs.Demand3.{Demands}

pub demand3 : Demands answer_of buffer_of
demand3 t q lent e f = promise t q lent (no_fault t q lent e f) (symbols_fit t e) (accepted_fits (names_of t) q f) (accepted (names_of t) q f).tree.few
