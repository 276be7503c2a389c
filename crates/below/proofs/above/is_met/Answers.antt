use mathlib.Core.Path.{◌∙◌}
use Rattle.below.proofs.MarksMade.{swept_alone}
use Rattle.symbol.specs.Lookup.{symbols_of}
use Rattle.below.proofs.above.is_met.Goals as goal

pub returns : goal.returns
returns c = λ a g.
    c.has_mark.ensures
    ∙ swept_alone c.args.table.now c.of.ensures.accepted a c.args.above c.args.found g c.args.marks.now c.mark_parents.new.marks c.sweep.new.marks c.requires.1
    (λ j. c.mark_parents.ensures.bits (symbols_of c.args.table.now) a j g.parents) (rw c.of.ensures.table at c.sweep.ensures.bits)
