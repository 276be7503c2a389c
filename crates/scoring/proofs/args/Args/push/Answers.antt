use Rattle.symbol.proofs.PlacesOccupied.{one_occupied}
use Rattle.scoring.proofs.args.Args.push.Goals as goal

pub invariant_of-self : goal.invariant_of-self
invariant_of-self c = one_occupied c.self.invariant c.self.view_is c.requires _
