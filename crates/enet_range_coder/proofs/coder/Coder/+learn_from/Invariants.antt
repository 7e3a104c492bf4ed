use Rattle.enet_range_coder.proofs.coder.Coder.+learn_from.Given as goal

abbrev pub decreases-learn_from : goal.decreases-learn_from
decreases-learn_from l = l.left
