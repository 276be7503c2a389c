use Rattle.scoring.proofs.Scores.{named_added}
use Rattle.scoring.proofs.score.named_turn.Goals as goal

pub returns-in-Some : goal.returns-in-Some
returns-in-Some c = named_added _ _ _ _ _ _ c.in-Some.is _ (c.named_place-place.ensures c.args.above.now) _ c.at_place.ensures _ _ _
    c.compare.ensures c.add-score.ensures (c.mark-marks.ensures c.args.above.now)
