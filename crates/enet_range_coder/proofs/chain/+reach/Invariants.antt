use Rattle.enet_range_coder.proofs.chain.+reach.Given as goal

abbrev pub decreases-reach : goal.decreases-reach
decreases-reach l = l.left
