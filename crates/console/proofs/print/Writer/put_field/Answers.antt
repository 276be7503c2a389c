use Rattle.console.proofs.Writing.{wrote_field}
use Rattle.console.proofs.print.Writer.put_field.Goals as goal

pub returns : goal.returns
returns c = wrote_field c.args.n c.put_decimal.ensures c.put_byte.ensures
