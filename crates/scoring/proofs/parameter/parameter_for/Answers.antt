use Rattle.scoring.proofs.ParamsReceived.{received_named}
use Rattle.scoring.proofs.parameter.parameter_for.Goals as goal

pub returns-in-Some : goal.returns-in-Some
returns-in-Some c = λ t. rw c.in-Some.is (received_named t _ _ _ _ _ _ (c.named_place.ensures t) c.at_place.ensures)
