use mathlib.Core.Path.{◌∙◌}
use Rattle.below.proofs.MarksMade.{marks_made}
use Rattle.below.proofs.marks.mark_above.Goals as goal

pub returns-clause-marks : goal.returns-clause-marks
returns-clause-marks c =
    marks_made c.args.table.now c.args.classes.now c.mark_classes-count.result c.mark_classes-count.new.marks c.sweep.new.marks c.mark_classes-count.ensures
    (rw c.of-records.ensures.table at c.sweep.ensures.bits)

pub returns-clause-long : goal.returns-clause-long
returns-clause-long c = c.sweep.ensures.long ∙ c.mark_classes-count.ensures.long
