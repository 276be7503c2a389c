use mathlib.Core.Path.{◌≡◌}
use Rattle.index.specs.Inside.Bucket.{digest_of}
use Rattle.index.proofs.tree.digest.Given as goal

abbrev pub invariant-loop-k : goal.invariant-loop-k
invariant-loop-k l = l.s ≡ digest_of l.k l.name
