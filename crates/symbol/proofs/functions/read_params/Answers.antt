use native.Mathlib.Omega.{arith}
use Rattle.symbol.proofs.ParamsLaid.{reading_done, reading_room, reading_next}
use Rattle.symbol.proofs.functions.read_params.Goals as goal

pub type_length-len-requires : goal.type_length-len-requires
type_length-len-requires c = (
  omega (arith, reading_room _ _ _ _ c.requires.1 _ _ _ c.loop-n.invariant c.loop-n-test.true),
  c.requires.1,
)

pub overflow_add-at-in-loop-n : goal.overflow_add-at-in-loop-n
overflow_add-at-in-loop-n c = omega (
  arith,
  reading_room _ _ _ _ c.requires.1 _ _ _ c.loop-n.invariant c.loop-n-test.true,
  c.type_length-len.ensures,
  c.requires.1,
)

pub loop-n-preserved : goal.loop-n-preserved
loop-n-preserved c = reading_next _ _ _ _ c.requires.1 _ _ _ c.loop-n.invariant c.loop-n-test.true _ c.type_length-len.ensures _ _ c.id_at.ensures
    c.byte_at-flag.ensures _ c.push.ensures

pub returns : goal.returns
returns c = reading_done _ _ _ _ c.requires.1 _ _ _ c.loop-n.invariant c.loop-n-test.false
