use native.Mathlib.Omega.{arith}
use Rattle.nodes.proofs.Working.{named-store, finish_named}
use Rattle.nodes.proofs.rule.finish_named.Goals as goal

pub store-requires : goal.store-requires
store-requires g c = let fits = c.well_formed in (omega arith, named-store _ _ c.requires.0 c.requires.1)

pub returns : goal.returns
returns g c = finish_named _ _ c.requires.0 c.store.ensures c.finished.ensures
