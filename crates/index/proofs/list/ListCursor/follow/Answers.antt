use Prim.Native.Nat.{◌<◌}
use lib.ListN.{length}
use mathlib.Core.Path.{sym, ◌∙◌, subst}
use Rattle.index.proofs.Counted.{counted}
use Rattle.index.proofs.ListSearch.{left_of}
use Rattle.index.proofs.ListWalks.{list_low, stays_end, stays_here, step_less, following_next}
use Rattle.index.specs.declared.list.ListCursor.{ListCursor}
use Rattle.index.proofs.list.ListCursor.follow.Goals as goal

pub has_key-requires : goal.has_key-requires
has_key-requires c = list_low c.args.t.now c.args.x.now c.requires.0 c.loop-c.c c.loop-c.invariant.at _ c.in-Some.is

pub returns-then-has_key : goal.returns-then-has_key
returns-then-has_key c = stays_here c.args.t.now c.args.x.now c.requires.0 c.loop-c.c c.loop-c.invariant.at _ c.in-Some.is
    (sym c.has_key.ensures ∙ c.if-has_key.true) ∙ c.loop-c.invariant.same

pub loop-c-smaller : goal.loop-c-smaller
loop-c-smaller c = subst (λ (y : ListCursor). left_of (length c.args.t.now) (counted y.here) < left_of (length c.args.t.now) (counted c.loop-c.c.here))
    (sym c.step-c.ensures) (step_less c.args.t.now c.args.x.now c.requires.0 c.loop-c.c c.loop-c.invariant.at _ c.in-Some.is)

pub loop-c-preserved : goal.loop-c-preserved
loop-c-preserved c = following_next c.args.t.now c.args.x.now c.requires.0 c.args.self c.loop-c.c c.loop-c.invariant _ c.in-Some.is
    (sym c.has_key.ensures ∙ c.if-has_key.false) c.step-c.result c.step-c.ensures

pub returns : goal.returns
returns c = stays_end c.args.t.now c.loop-c.c c.in_default.is ∙ c.loop-c.invariant.same
