use Rattle.std.proofs.Common.{rules, subst, sym}
use Rattle.std.proofs.KnownBytes.{Consumes-trans}
use Rattle.std.specs.Io.KnownBytes.{Consumes}
use Rattle.console.proofs.ReadFronts.{front_read}
use Rattle.console.proofs.read_full.Goals as goal

pub loop-at-preserved : goal.loop-at-preserved
loop-at-preserved g c =
    let i = c.loop-at.invariant in
    let r = c.in_ok-n.ensures in (
      search rules,
      search rules,
      subst (Consumes _ _) (sym (front_read _ _ c.in_ok-n.n c.loop-at.buf c.read.new.buf i.1 r.bound.0)) (Consumes-trans _ _ _ _ _ i.2 r.bytes.0),
    )
