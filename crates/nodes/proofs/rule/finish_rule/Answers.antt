use native.Mathlib.Omega.{arith}
use Rattle.nodes.proofs.Working.{one_more, rule_store, finish_ruled}
use Rattle.nodes.proofs.rule.finish_rule.Goals as goal

pub report_one-requires-2 : goal.report_one-requires-2
report_one-requires-2 g c = omega (arith, one_more _ _ _ c.report_one.ensures, c.requires.few)

pub store-requires : goal.store-requires
store-requires g c = let fits = c.well_formed in (omega arith, rule_store _ _ _ _ _ _ c.requires)

pub returns : goal.returns
returns g c = finish_ruled _ _ _ _ _ _ c.requires c.report_one.ensures c.report_one-2.ensures c.store.ensures c.finished.ensures
