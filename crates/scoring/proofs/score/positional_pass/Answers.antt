use Rattle.scoring.proofs.Scores.{unnamed_next}
use Rattle.scoring.proofs.score.positional_pass.Goals as goal

pub loop-a-preserved : goal.loop-a-preserved
loop-a-preserved g c = let e = c.as_slice-a-items.ensures.value in
    unnamed_next _ _ _ _ _ _ _ c.loop-a.invariant _ _ _ (rw e at c.loop-a-test.true) (rw e at c.type_of.ensures) (rw e at c.unnamed_turn-w.ensures)
