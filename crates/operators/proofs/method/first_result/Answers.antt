use Rattle.operators.proofs.MethodLookups.{first_stands}
use Rattle.operators.proofs.method.first_result.Goals as goal

pub read_function-requires : goal.read_function-requires
read_function-requires c = rw c.bytes.ensures.bytes (first_stands c.args.table.now c.bytes.ensures.clean _ _ _ c.in-Some.ensures)
