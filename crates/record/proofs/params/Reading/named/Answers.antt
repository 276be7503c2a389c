use mathlib.Core.Path.{refl}
use native.Mathlib.Omega.{arith}
use Rattle.record.proofs.ParamSteps.{among_any}
use Rattle.record.proofs.params.Reading.named.Goals as goal

pub returns : goal.returns
returns c = rw (c.max.ensures, c.contains.ensures.value, among_any c.args.self.count c.args.self.names c.args.id (omega arith)) refl
