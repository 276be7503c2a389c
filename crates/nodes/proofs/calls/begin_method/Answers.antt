use Rattle.nodes.proofs.Beginning.{owner_none, owner_some}
use Rattle.nodes.proofs.calls.begin_method.Goals as goal

pub returns-in_err-owner : goal.returns-in_err-owner
returns-in_err-owner g c = owner_none _ _ _ _ _ _ c.owner_of.ensures c.in_err-owner.was c.from_residual.ensures

pub returns : goal.returns
returns g c = owner_some _ _ _ _ _ _ _ _ c.owner_of.ensures c.in_ok-owner.was c.begin_owned.ensures c.then_some.ensures
