use Rattle.load.proofs.+write_tree.Given as goal

-- the number of nodes falls
abbrev pub decreases-write_tree : goal.decreases-write_tree
decreases-write_tree l = l.nodes
