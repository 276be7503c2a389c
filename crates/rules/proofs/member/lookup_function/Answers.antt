use Rattle.operators.proofs.MethodLookups.{first_stands}
use Rattle.rules.proofs.member.lookup_function.Goals as goal

pub read_function-f-requires : goal.read_function-f-requires
read_function-f-requires c = rw c.bytes.ensures.bytes (first_stands c.args.table.now c.bytes.ensures.clean _ _ _ c.in_ok-place.ensures)
