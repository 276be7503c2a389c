use mathlib.Core.Path.{sym, ◌∙◌}
use Rattle.index.proofs.Earlier.{has_room}
use Rattle.index.proofs.tree.has.Goals as goal

pub name_at-requires : goal.name_at-requires
name_at-requires c = has_room c.args.t.now c.args.p c.requires.0 (sym c.byte_at.ensures ∙ c.if-byte_at-number.false ∙ c.number.ensures)
