use Rattle.nodes.proofs.Beginning.{call_none, call_some}
use Rattle.nodes.proofs.Working.{found_here_lem, found_none}
use Rattle.symbol.proofs.FunctionLists.{first_listed}
use Rattle.nodes.proofs.calls.begin_call.Goals as goal

pub returns-in-None : goal.returns-in-None
returns-in-None c = call_none _ _ _ _ _ (found_none _ _ _ (first_listed _ c.bytes.ensures.clean _ _ _ c.first_function.ensures) c.in-None.is)

pub returns-in-Some : goal.returns-in-Some
returns-in-Some c = call_some _ _ _ _ (found_here_lem _ _ _ _ (first_listed _ c.bytes.ensures.clean _ _ _ c.first_function.ensures) c.in-Some.is).first c.before_call.ensures
