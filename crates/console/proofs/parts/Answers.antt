use Prim.Native.Nat.{◌+◌}
use mathlib.Core.Path.{◌∙◌}
use Rattle.ty.proofs.Laws.{part-drop}
use Rattle.console.proofs.InputParts.{whole_from, part_from, table_some, table_none, question_some, question_none}
use Rattle.console.proofs.parts.Goals as goal

pub returns-in-Some-clause-table : goal.returns-in-Some-clause-table
returns-in-Some-clause-table c = let l = c.in-Some.ensures.lookup.0 in
    let e = whole_from c.args.input.now c.id_at.result c.id_at.ensures l.1 in
    l.2 ∙ table_some c.args.input.now c.id_at.result e c.id_at.ensures

pub returns-in-Some-clause-question : goal.returns-in-Some-clause-question
returns-in-Some-clause-question c = let l = c.in-Some.ensures.lookup.0 in
    let e = whole_from c.args.input.now c.id_at.result c.id_at.ensures l.1 in
    part-drop (2 + c.id_at.result) c.args.input.now ∙ question_some c.args.input.now c.id_at.result e c.id_at.ensures

pub returns-in-None-clause-table : goal.returns-in-None-clause-table
returns-in-None-clause-table c = table_none c.args.input.now (part_from c.args.input.now c.id_at.result c.id_at.ensures c.in-None.ensures.lookup.0)

pub returns-in-None-clause-question : goal.returns-in-None-clause-question
returns-in-None-clause-question c = question_none c.args.input.now (part_from c.args.input.now c.id_at.result c.id_at.ensures c.in-None.ensures.lookup.0)
