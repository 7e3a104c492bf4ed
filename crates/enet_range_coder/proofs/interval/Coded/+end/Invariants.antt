use Rattle.enet_range_coder.proofs.interval.Coded.+end.Given as goal

abbrev pub decreases-end : goal.decreases-end
decreases-end l = l.left
