use Rattle.enet_range_coder.proofs.chain.+find.Given as goal

abbrev pub decreases-find : goal.decreases-find
decreases-find l = l.left
