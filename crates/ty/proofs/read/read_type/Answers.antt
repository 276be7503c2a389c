use Rattle.std.specs.Prelude.{Ok, Err}
use mathlib.Core.Path.{sym, ◌∙◌}
use native.Mathlib.Omega.{arith}
use Rattle.ty.proofs.Reading.{starts, turn, ends}
use Rattle.ty.specs.declared.read.ItemFault.TheVariants.{Broken, Out}
use Rattle.ty.proofs.read.read_type.Goals as goal

pub loop-pending-init : goal.loop-pending-init
loop-pending-init c = (omega arith, omega arith, starts c.args.s.now _ _ c.min-end.ensures)

pub returns-in-Err-Broken : goal.returns-in-Err-Broken
returns-in-Err-Broken c =
    let v = c.loop-pending.invariant in
    let is = sym (rw c.in-Err-Broken.field-0-is at c.in-Err-Broken.is) ∙ c.item_at.ensures in
    sym (turn c.args.s.now _ _ _ _ _ _ c.min-end.ensures v.0 v.2 c.loop-pending-test.true (Err Broken) is)

pub returns-in-Err-Out : goal.returns-in-Err-Out
returns-in-Err-Out c =
    let v = c.loop-pending.invariant in
    let is = sym (rw c.in-Err-Out.field-0-is at c.in-Err-Out.is) ∙ c.item_at.ensures in
    rw c.no_end.ensures (sym (turn c.args.s.now _ _ _ _ _ _ c.min-end.ensures v.0 v.2 c.loop-pending-test.true (Err Out) is))

pub overflow_add-pending : goal.overflow_add-pending
overflow_add-pending c =
    let v = c.loop-pending.invariant in
    let is = sym c.in-Ok.is ∙ c.item_at.ensures in
    let w = turn c.args.s.now _ _ _ _ _ _ c.min-end.ensures v.0 v.2 c.loop-pending-test.true (Ok c.in-Ok.item) is in
    omega arith

pub loop-pending-smaller : goal.loop-pending-smaller
loop-pending-smaller c =
    let v = c.loop-pending.invariant in
    let is = sym c.in-Ok.is ∙ c.item_at.ensures in
    let w = turn c.args.s.now _ _ _ _ _ _ c.min-end.ensures v.0 v.2 c.loop-pending-test.true (Ok c.in-Ok.item) is in
    omega arith

pub loop-pending-preserved : goal.loop-pending-preserved
loop-pending-preserved c =
    let v = c.loop-pending.invariant in
    let is = sym c.in-Ok.is ∙ c.item_at.ensures in
    let w = turn c.args.s.now _ _ _ _ _ _ c.min-end.ensures v.0 v.2 c.loop-pending-test.true (Ok c.in-Ok.item) is in
    (omega arith, omega arith, rw c.max-top.ensures w.3)

pub returns : goal.returns
returns c =
    let v = c.loop-pending.invariant in
    sym (ends c.args.s.now _ _ _ _ _ _ c.min-end.ensures v.0 v.2 c.loop-pending-test.false)
