use Rattle.std.proofs.Common.{rules}
use Rattle.symbol.proofs.LookedUp.{types_answer}
use Rattle.symbol.proofs.lookups.in_types.Goals as goal

pub returns : goal.returns
returns c = types_answer c.args.table.now c.args.class 0 _ _ c.seek-p.ensures.records _ c.is_some_and.ensures (λ p q. search rules)
