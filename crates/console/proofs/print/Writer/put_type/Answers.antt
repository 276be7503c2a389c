use borrow.Author.Tests.{eqb-true, eqb-false}
use native.Mathlib.Omega.{arith}
use mathlib.Core.Path.{sym}
use Rattle.console.proofs.Writing.{hex_none, hex_turn, hex_done, type_none, type_some}
use Rattle.console.proofs.print.Writer.put_type.Goals as goal

pub returns-then-is_empty : goal.returns-then-is_empty
returns-then-is_empty c = type_none c.args.ty.now (eqb-true _ _ (sym c.if-is_empty.ensures)) c.put_byte.ensures

pub loop-b-init : goal.loop-b-init
loop-b-init c = hex_none c.args.ty.now c.args.self.now

pub loop-b-preserved : goal.loop-b-preserved
loop-b-preserved c = hex_turn c.args.ty.now c.loop-b.b-index c.loop-b-test.true c.loop-b.invariant c.put_hex.ensures

pub returns : goal.returns
returns c = let e = hex_done c.args.ty.now c.loop-b.b-index (omega arith) c.loop-b.invariant in
    type_some c.args.ty.now (eqb-false _ _ (sym c.if-is_empty.ensures)) e
