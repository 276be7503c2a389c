use Rattle.below.proofs.ParentsFound.{early_found, early_none, parents_left}
use Rattle.below.specs.Inside.Marks.{has_bit, has_mark}
use Rattle.symbol.specs.Lookup.{symbols_of}
use Rattle.below.proofs.marks.mark_class.Goals as goal

pub returns-in-Some-clause-early : goal.returns-in-Some-clause-early
returns-in-Some-clause-early c = early_found c.args.table.now c.in-Some.ensures.accepted c.args.class c.in-Some.found c.in-Some.ensures.parents

pub returns-in-None-clause-bits : goal.returns-in-None-clause-bits
returns-in-None-clause-bits c = λ j.
    parents_left (symbols_of c.args.table.now) c.args.class c.in-None.ensures.parents (has_bit c.args.mask j) (has_mark c.args.marks.now j)

pub returns-in-None-clause-early : goal.returns-in-None-clause-early
returns-in-None-clause-early c = early_none c.args.table.now c.in-None.ensures.accepted c.args.class c.in-None.ensures.parents
