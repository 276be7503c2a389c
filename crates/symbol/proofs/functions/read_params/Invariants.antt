use Rattle.symbol.proofs.ParamsLaid.{Reading}
use Rattle.symbol.proofs.functions.read_params.Given as goal

abbrev pub invariant-loop-n : goal.invariant-loop-n
invariant-loop-n l = Reading l.t l.from l.end l.count l.at l._n l.p
