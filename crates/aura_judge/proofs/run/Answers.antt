use native.Mathlib.Omega.{arith}
use borrow.Author.Rules.{rules}
use Rattle.aura_judge.proofs.Kept.{on_ok, answers}
use Rattle.aura_judge.proofs.run.Goals as goal

pub returns : goal.returns
returns g c =
    let r = c.in_ok-n.ensures in
    let e = c.respond.ensures in
    record { written = on_ok c.respond.result (answers _ c.in_ok-n.n (search rules) r.within _ _ _ _ r.bytes r.whole (e.short (omega arith))) e.written }
