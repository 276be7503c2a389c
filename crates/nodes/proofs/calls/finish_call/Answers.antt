use native.Mathlib.Omega.{arith}
use Rattle.nodes.proofs.Working.{call-store, finish_called}
use Rattle.overload.proofs.CallAnswers.{called_is}
use Rattle.nodes.proofs.calls.finish_call.Goals as goal

pub store-requires : goal.store-requires
store-requires g c =
    let fits = c.well_formed in
    let w = called_is _ c.bytes.ensures.clean _ _ c.args.node _ _ c.check_call_args-source.ensures.source in
    (omega arith, rw c.bytes.ensures.bytes (call-store _ _ c.requires w.ty w.reads))

pub returns : goal.returns
returns g c =
    let w = called_is _ c.bytes.ensures.clean _ _ c.args.node _ _ c.check_call_args-source.ensures.source in
    finish_called _ _ c.requires w.ty c.check_call_args-source.ensures.reports (rw c.bytes.ensures.bytes at c.store.ensures) c.finished.ensures
