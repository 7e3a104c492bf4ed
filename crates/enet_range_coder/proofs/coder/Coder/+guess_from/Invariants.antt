use Rattle.enet_range_coder.proofs.coder.Coder.+guess_from.Given as goal

abbrev pub decreases-guess_from : goal.decreases-guess_from
decreases-guess_from l = l.left
