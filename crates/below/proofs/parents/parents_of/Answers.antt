use mathlib.Core.Path.{◌∙◌, sym}
use Rattle.below.proofs.ParentsFound.{class_found, no_record, no_parents, parented_is}
use Rattle.symbol.specs.Lookup.{symbols_of}
use Rattle.below.proofs.parents.parents_of.Goals as goal

pub returns-in_err-number-clause-parents : goal.returns-in_err-number-clause-parents
returns-in_err-number-clause-parents c =
    rw c.from_residual.ensures (no_record c.args.table.now c.of-records.ensures.accepted c.args.class c.in_err-number.ensures)

pub parents_at-parents-requires : goal.parents_at-parents-requires
parents_at-parents-requires c =
    rw c.of-records.ensures.table (class_found c.args.table.now c.of-records.ensures.accepted c.args.class c.in_ok-number.number c.in_ok-number.ensures).1

pub returns-then-are_none-clause-parents : goal.returns-then-are_none-clause-parents
returns-then-are_none-clause-parents c =
    no_parents (symbols_of c.args.table.now) c.args.class c.parents_at-parents.result
    (rw (class_found c.args.table.now c.of-records.ensures.accepted c.args.class c.in_ok-number.number c.in_ok-number.ensures).2
    at (rw c.of-records.ensures.table at c.parents_at-parents.ensures.of_class))
    (sym c.are_none.ensures ∙ c.if-are_none.true)

pub returns-clause-parents : goal.returns-clause-parents
returns-clause-parents c =
    parented_is c.args.table.now c.of-records.ensures.accepted c.args.class c.in_ok-number.number c.in_ok-number.ensures c.parents_at-parents.result
    (rw c.of-records.ensures.table at c.parents_at-parents.ensures.of_class) c.parents_at-parents.ensures.below
    (sym c.are_none.ensures ∙ c.if-are_none.false)
