use Rattle.enet_range_coder.proofs.chain.+halve.Given as goal

abbrev pub decreases-halve : goal.decreases-halve
decreases-halve l = l.left
