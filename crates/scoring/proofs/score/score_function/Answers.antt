use Rattle.scoring.proofs.Scores.{score_is}
use Rattle.scoring.proofs.score.score_function.Goals as goal

pub returns : goal.returns
returns g c = let e = c.as_slice-params.ensures.value in
    score_is _ _ _ _ _ (rw e at c.named_pass-named.ensures.is) (rw e at c.positional_pass-score.ensures.is) (rw e at c.as_slice-params.ensures.fits) _ c.add.ensures
