use Rattle.std.proofs.Common.{sym}
use Rattle.std.proofs.Math.Seq.{length-take-le}
use Rattle.written.proofs.Outputs.{len_fits}
use Rattle.aura_load.proofs.respond.Goals as goal

pub slice_bounds-write_all-end-in-Ok : goal.slice_bounds-write_all-end-in-Ok
slice_bounds-write_all-end-in-Ok g c = sym (length-take-le _ _ (len_fits _ _ _ _ c.in-Ok.ensures.writes))
