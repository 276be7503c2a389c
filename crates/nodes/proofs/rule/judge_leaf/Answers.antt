use Rattle.nodes.proofs.Working.{finish_leaf}
use Rattle.nodes.proofs.rule.judge_leaf.Goals as goal

pub returns : goal.returns
returns g c = finish_leaf c.requires c.inside-e.ensures c.store_part.ensures c.finished.ensures
