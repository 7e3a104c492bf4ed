use Rattle.enet_range_coder.proofs.coder.Coder.+code_from.Given as goal

abbrev pub decreases-code_from : goal.decreases-code_from
decreases-code_from l = l.left
