use Rattle.console.proofs.Writing.{wrote_then}
use Rattle.console.specs.AnswerText.{first_line}
use Rattle.console.proofs.print.Writer.put_first_line.Goals as goal

pub returns : goal.returns
unfolding first_line
returns c = wrote_then c.put_field.ensures (wrote_then c.put_field-2.ensures
    (wrote_then c.put_field-3.ensures (wrote_then c.put_type.ensures (wrote_then c.put_byte.ensures c.put_field-4.ensures))))
