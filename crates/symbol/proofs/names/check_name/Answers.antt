use mathlib.Core.Bool.{not}
use mathlib.Core.Path.{ap, ◌∙◌}
use Rattle.record.specs.Inside.NameHash.{hash_of}
use Rattle.symbol.proofs.NameFaults.{name_malformed, name_whole, name_inside, name_builtin, name_number}
use Rattle.ty.proofs.Laws.{part-drop}
use Rattle.symbol.proofs.names.check_name.Goals as goal

pub returns-then-is_none-clause-number : goal.returns-then-is_none-clause-number
returns-then-is_none-clause-number c =
    name_malformed c.args.t.now c.args.x.now c.args.me c.requires _ (rw (part-drop c.args.me.at c.args.t.now) at c.read_name.ensures)
    (c.is_none.ensures ∙ ap not c.if-is_none.true)

pub name_at-name-requires : goal.name_at-name-requires
name_at-name-requires c =
    name_inside c.args.t.now c.args.x.now c.args.me c.requires
    (name_whole c.args.t.now c.args.x.now c.args.me c.requires _ (rw (part-drop c.args.me.at c.args.t.now) at c.read_name.ensures)
    (c.is_none.ensures ∙ ap not c.if-is_none.false))

pub returns-then-is_builtin-clause-number : goal.returns-then-is_builtin-clause-number
returns-then-is_builtin-clause-number c =
    name_builtin c.args.t.now c.args.x.now c.args.me c.requires
    (name_whole c.args.t.now c.args.x.now c.args.me c.requires _ (rw (part-drop c.args.me.at c.args.t.now) at c.read_name.ensures)
    (c.is_none.ensures ∙ ap not c.if-is_none.false))
    _ c.name_at-name.ensures _ c.is_builtin.ensures c.if-is_builtin.true

pub name_entry-requires : goal.name_entry-requires
name_entry-requires c =
    record {
      name = c.requires;
      front =
          name_whole c.args.t.now c.args.x.now c.args.me c.requires _ (rw (part-drop c.args.me.at c.args.t.now) at c.read_name.ensures)
          (c.is_none.ensures ∙ ap not c.if-is_none.false);
      hash = c.name_hash-h.ensures.0 ∙ ap hash_of c.name_at-name.ensures;
    }

pub returns-clause-number : goal.returns-clause-number
returns-clause-number c =
    name_number c.args.t.now c.args.x.now c.args.me c.requires
    (name_whole c.args.t.now c.args.x.now c.args.me c.requires _ (rw (part-drop c.args.me.at c.args.t.now) at c.read_name.ensures)
    (c.is_none.ensures ∙ ap not c.if-is_none.false))
    _ c.name_at-name.ensures _ c.is_builtin.ensures c.if-is_builtin.false c.name_entry.result c.name_entry.ensures c.ok_or.result c.ok_or.ensures.value
