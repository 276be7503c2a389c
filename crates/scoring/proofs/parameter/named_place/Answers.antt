use Rattle.std.proofs.Common.{rules, tests}
use Rattle.std.proofs.lemmas.Iterator.{YieldsList-from_slice}
use Rattle.std.proofs.lemmas.Iterator.Search.{position_from_yields_List}
use Rattle.scoring.proofs.ParamSearch.{place_positioned}
use Rattle.scoring.proofs.parameter.named_place.Goals as goal

pub returns : goal.returns
returns c = λ t. rw (place_positioned t c.args.params.now c.args.id)
    (position_from_yields_List _ _ _ _ c.position.ensures.ran (YieldsList-from_slice c.args.params.now cc) (λ x b q k. search (rules, tests)))
