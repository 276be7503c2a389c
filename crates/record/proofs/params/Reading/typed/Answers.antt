use mathlib.Core.Path.{sym, ◌∙◌}
use native.Mathlib.Omega.{arith}
use Rattle.ty.proofs.Laws.{part-drop}
use Rattle.record.proofs.Types.{ends_in}
use Rattle.record.proofs.params.Reading.typed.Goals as goal

pub overflow_add-result : goal.overflow_add-result
overflow_add-result c =
    let e = rw (part-drop c.args.at c.args.s.now) at c.read_type.ensures in
    let h = rw (sym e ∙ c.in-Ok.is) at (ends_in c.args.at c.args.s.now c.requires) in omega arith
