use Rattle.std.proofs.Common.{rules}
use Rattle.scoring.proofs.Scores.{unnamed_passed, unnamed_added, one_few_le}
use Rattle.scoring.proofs.score.unnamed_turn.Goals as goal

pub returns-then-is_some : goal.returns-then-is_some
returns-then-is_some c = unnamed_passed _ _ _ _ _ _ (search rules)

pub add-requires : goal.add-requires
add-requires c = (c.requires, one_few_le _ _ _ _ c.compare-one.ensures)

pub returns : goal.returns
returns c = unnamed_added _ _ _ _ _ _ (search rules) _ (c.next_unmarked-own.ensures c.args.above.now) _ _ c.compare-one.ensures c.add.ensures
