use Rattle.enet_range_coder.proofs.chain.+weigh.Given as goal

abbrev pub decreases-weigh : goal.decreases-weigh
decreases-weigh l = l.left
