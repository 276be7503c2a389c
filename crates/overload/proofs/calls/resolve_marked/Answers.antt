use mathlib.Core.Path.{refl}
use Rattle.below.proofs.MarkBits.{new_marks}
use Rattle.overload.proofs.calls.resolve_marked.Goals as goal

pub mark_above-requires : goal.mark_above-requires
mark_above-requires g c = (c.requires.0, new_marks _ refl)
