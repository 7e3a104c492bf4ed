use Rattle.enet_range_coder.proofs.interval.Coded.+put_out.Given as goal

abbrev pub decreases-put_out : goal.decreases-put_out
decreases-put_out l = l.left
