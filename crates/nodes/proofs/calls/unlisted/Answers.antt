use native.Mathlib.Omega.{arith}
use Rattle.nodes.proofs.Working.{kind_store, finish_unlisted}
use Rattle.nodes.proofs.calls.unlisted.Goals as goal

pub store-requires : goal.store-requires
store-requires g c = let fits = c.well_formed in (omega arith, kind_store _ _ _ _ c.requires.0 c.requires.1)

pub returns : goal.returns
returns g c = finish_unlisted _ _ _ _ _ _ c.requires.0 c.skip-p.ensures c.store.ensures c.finished.ensures
