use lib.ListN.{length}
use mathlib.Core.Path.{sym, ◌∙◌}
use native.Mathlib.Omega.{arith}
use Rattle.index.proofs.Buckets.{buckets_bound}
use Rattle.index.proofs.Paths.{tree_for_low}
use Rattle.index.proofs.TreeWalks.{sought_start, sought_end, sought_found, sought_node, sought_less, sought_next}
use Rattle.index.proofs.tree.search.Goals as goal

pub new-c-requires : goal.new-c-requires
new-c-requires c = omega (arith, c.requires.2, tree_for_low c.args.t.now c.args.key, (buckets_bound (length c.args.t.now)).1)

pub loop-c-init : goal.loop-c-init
loop-c-init c = sought_start c.args.t.now c.args.x.now c.args.key c.requires.0 c.args.b c.requires.2 c.new-c.result c.new-c.ensures

pub has-requires : goal.has-requires
has-requires c = (
  (sought_node c.args.t.now c.args.x.now c.args.key c.requires.0 c.loop-c.c c.loop-c.invariant _ c.in-Some.is).begun,
  c.requires.1,
  c.requires.0.short,
)

pub returns-then-has : goal.returns-then-has
returns-then-has c = sought_found c.args.t.now c.args.x.now c.args.key c.requires.0 c.loop-c.c c.loop-c.invariant _ c.in-Some.is (sym c.has.ensures ∙ c.if-has.true)

pub loop-c-smaller : goal.loop-c-smaller
loop-c-smaller c = sought_less c.args.t.now c.args.x.now c.args.key c.requires.0 c.loop-c.c c.loop-c.invariant _ c.in-Some.is c.step-c.result c.step-c.ensures

pub loop-c-preserved : goal.loop-c-preserved
loop-c-preserved c = sought_next c.args.t.now c.args.x.now c.args.key c.requires.0 c.loop-c.c c.loop-c.invariant _ c.in-Some.is (sym c.has.ensures ∙ c.if-has.false)
    c.step-c.result c.step-c.ensures

pub returns : goal.returns
returns c = c.spot.ensures ∙ sought_end c.args.t.now c.args.x.now c.args.key c.requires.0 c.loop-c.c c.loop-c.invariant c.in_default.is
