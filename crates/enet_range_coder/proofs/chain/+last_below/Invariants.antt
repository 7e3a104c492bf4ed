use Rattle.enet_range_coder.proofs.chain.+last_below.Given as goal

abbrev pub decreases-last_below : goal.decreases-last_below
decreases-last_below l = l.left
