use lib.ListN.{length}
use Rattle.index.proofs.Counted.{counted}
use Rattle.index.proofs.ListSearch.{left_of}
use Rattle.index.proofs.TreeWalks.{Sought}
use Rattle.index.proofs.tree.search.Given as goal

abbrev pub invariant-loop-c : goal.invariant-loop-c
invariant-loop-c l = Sought l.t l.x l.key l.c

abbrev pub decreases-loop-c : goal.decreases-loop-c
decreases-loop-c l = left_of (length l.t) (counted l.c.here)
