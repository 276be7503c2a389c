use native.Mathlib.Omega.{arith}
use Rattle.symbol.proofs.FunctionsRead.{function-long, function-inside, function_room, function-count, function_row, function-fields}
use Rattle.symbol.proofs.functions.read_whole.Goals as goal

pub type_length-len-requires : goal.type_length-len-requires
type_length-len-requires c = (
  omega (arith, function-long c.args.t.now c.args.p c.requires.0 c.args.end c.requires.1),
  function-inside c.args.t.now c.args.p c.requires.0 c.args.end c.requires.1,
)

pub overflow_add-start-2 : goal.overflow_add-start-2
overflow_add-start-2 c = omega (
  arith,
  function_room c.args.t.now c.args.p c.requires.0 c.args.end c.requires.1 c.type_length-len.result
      c.type_length-len.ensures,
  function-inside c.args.t.now c.args.p c.requires.0 c.args.end c.requires.1,
)

pub read_params-params-requires : goal.read_params-params-requires
read_params-params-requires c = (
  function_room c.args.t.now c.args.p c.requires.0 c.args.end c.requires.1 c.type_length-len.result
      c.type_length-len.ensures,
  function-inside c.args.t.now c.args.p c.requires.0 c.args.end c.requires.1,
  function-count c.args.t.now c.args.p c.requires.0 c.args.end c.requires.1 c.type_length-len.result c.type_length-len.ensures c.byte_at.result
      c.byte_at.ensures,
  function_row c.args.t.now c.args.p c.requires.0 c.args.end c.requires.1 c.type_length-len.result c.type_length-len.ensures
      c.byte_at.result c.byte_at.ensures,
)

pub returns : goal.returns
returns c = function-fields c.args.t.now c.args.p c.requires.0 c.args.end c.requires.1 c.type_length-len.result c.type_length-len.ensures
    c.byte_at.result c.byte_at.ensures c.byte_at-3.result c.byte_at-2.result c.byte_at-3.ensures c.byte_at-2.ensures c.read_params-params.result
    c.read_params-params.ensures
