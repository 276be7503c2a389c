use Prim.Native.Nat.{◌%◌, ◌<◌}
use mathlib.Core.Path.{◌≡◌, ◌∙◌}
use native.Mathlib.Omega.{arith}
use Rattle.index.proofs.Buckets.{list_reduced_sized, lists_bound, list-below}
use Rattle.index.specs.Inside.Index.{list_count}
use Rattle.index.proofs.index.list_reduced.Goals as goal

pub returns : goal.returns
returns c = let e : c.pick.result ≡ c.args.h % list_count c.args.n = c.pick.ensures ∙ list_reduced_sized _ _ c.of.ensures c.args.h in
    let l : c.pick.result < list_count c.args.n = rw e (list-below c.args.h c.args.n) in (e, l, omega (arith, l, (lists_bound c.args.n).1))
