use mathlib.Core.Path.{sym, ◌∙◌}
use Rattle.overload.proofs.ClassesGathered.{class_there, class_none}
use Rattle.overload.proofs.classes.gather.Goals as goal

pub returns-then-class : goal.returns-then-class
returns-then-class c = c.push.ensures ∙ rw c.core_of-class.ensures (class_there _ _ (rw c.core_of-class.ensures at c.if-class.true))

pub returns-else-class : goal.returns-else-class
returns-else-class c = class_none _ _ (sym c.core_of-class.ensures ∙ c.if-class.false)
