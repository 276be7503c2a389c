use lib.ListN.{length}
use Rattle.index.proofs.Counted.{counted}
use Rattle.index.proofs.ListSearch.{left_of}
use Rattle.index.proofs.ListWalks.{Following}
use Rattle.index.proofs.list.ListCursor.follow.Given as goal

abbrev pub invariant-loop-c : goal.invariant-loop-c
invariant-loop-c l = Following l.t l.initial.c l.c

abbrev pub decreases-loop-c : goal.decreases-loop-c
decreases-loop-c l = left_of (length l.t) (counted l.c.here)
