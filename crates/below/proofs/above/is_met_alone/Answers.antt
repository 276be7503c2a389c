use mathlib.Core.Path.{refl}
use Rattle.below.proofs.MarkBits.{new_marks}
use Rattle.below.proofs.above.is_met_alone.Goals as goal

pub is_met-requires : goal.is_met-requires
is_met-requires c = (c.requires, new_marks _ refl)
