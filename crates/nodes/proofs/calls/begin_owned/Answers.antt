use mathlib.Core.Path.{ap}
use Rattle.nodes.proofs.Beginning.{method_none, method_some}
use Rattle.nodes.proofs.Working.{found_here_lem, found_none}
use Rattle.symbol.proofs.FunctionLists.{first_listed}
use Rattle.symbol.proofs.FunctionsRead.{read_is}
use Rattle.symbol.specs.Symbols.{Overload}
use Rattle.nodes.proofs.calls.begin_owned.Goals as goal

pub read_function-f-requires : goal.read_function-f-requires
read_function-f-requires c = rw c.bytes-bytes.ensures.bytes (found_here_lem _ _ _ _ (first_listed _ c.bytes-bytes.ensures.clean _ _ _ c.first_function.ensures) c.in-Some.is).here

pub returns-in-None : goal.returns-in-None
returns-in-None c = method_none _ _ _ _ _ _ (found_none _ _ _ (first_listed _ c.bytes-bytes.ensures.clean _ _ _ c.first_function.ensures) c.in-None.is)

pub returns-in-Some : goal.returns-in-Some
returns-in-Some c =
    let w = found_here_lem _ _ _ _ (first_listed _ c.bytes-bytes.ensures.clean _ _ _ c.first_function.ensures) c.in-Some.is in
    method_some _ _ _ _ _ _ w.first (ap (λ (o : Overload). o.visibility) (read_is _ _ w.here _ (rw c.bytes-bytes.ensures.bytes at c.read_function-f.ensures)).same) c.before_method.ensures
