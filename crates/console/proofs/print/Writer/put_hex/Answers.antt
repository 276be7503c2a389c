use Rattle.console.proofs.Writing.{wrote_hex}
use Rattle.console.proofs.print.Writer.put_hex.Goals as goal

pub returns : goal.returns
returns c = wrote_hex c.args.b c.hex_digit.ensures c.put_byte.ensures c.hex_digit-2.ensures c.put_byte-2.ensures
