use Rattle.console.proofs.Writing.{wrote_line}
use Rattle.console.proofs.print.Writer.put_line.Goals as goal

pub returns : goal.returns
returns c =
    wrote_line c.args.diagnostic.now 0 _ _ _ c.byte_at.ensures c.put_field.ensures c.id_at.ensures
    c.put_field-2.ensures c.id_at-2.ensures c.put_field-3.ensures
