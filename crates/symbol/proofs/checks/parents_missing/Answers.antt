use Rattle.index.proofs.KindTests.{kinds_differ, kinds_agree}
use Rattle.record.specs.declared.front.RecordKind.TheVariants.{Class}
use Rattle.symbol.proofs.ParentLate.{missing_other, missing_class}
use Rattle.symbol.proofs.checks.parents_missing.Goals as goal

pub returns-then-ne : goal.returns-then-ne
returns-then-ne c = missing_other c.args.t.now c.args.me c.args.h c.requires.stands
    (kinds_differ c.args.h.kind Class c.ne.result c.ne.ensures c.if-ne.true)

pub returns : goal.returns
returns c =
    rw (c.missing_one.ensures, c.missing_one-2.ensures, c.missing_one-3.ensures, c.id_at.ensures, c.id_at-2.ensures)
    (missing_class c.args.t.now c.args.me c.args.h c.requires.stands
    (kinds_agree c.args.h.kind Class c.ne.result c.ne.ensures c.if-ne.false))
