use Rattle.index.proofs.Single.{accepted_open}
use Rattle.index.proofs.table.Table.seek.Goals as goal

pub search-requires : goal.search-requires
search-requires c = (accepted_open _ _ c.self.invariant, c.requires.low, c.tree_of.ensures.0)
