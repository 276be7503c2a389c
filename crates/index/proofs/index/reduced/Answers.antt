use Prim.Native.Nat.{◌%◌, ◌<◌}
use mathlib.Core.Path.{◌≡◌, ◌∙◌}
use native.Mathlib.Omega.{arith}
use Rattle.index.proofs.Buckets.{reduced_sized, buckets_bound, bucket-below}
use Rattle.index.specs.Inside.Index.{bucket_count}
use Rattle.index.proofs.index.reduced.Goals as goal

pub returns : goal.returns
returns c = let e : c.pick.result ≡ c.args.h % bucket_count c.args.n = c.pick.ensures ∙ reduced_sized _ _ c.of.ensures c.args.h in
    let l : c.pick.result < bucket_count c.args.n = rw e (bucket-below c.args.h c.args.n) in (e, l, omega (arith, l, (buckets_bound c.args.n).1))
