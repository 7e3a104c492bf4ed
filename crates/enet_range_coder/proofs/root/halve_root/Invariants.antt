use Rattle.std.proofs.Common.{◌≡◌, ◌++◌, map, take, drop}
use Rattle.enet_range_coder.specs.Learning.{halve_weight}
use Rattle.enet_range_coder.proofs.root.halve_root.Given as goal

abbrev pub invariant-loop-weight : goal.invariant-loop-weight
invariant-loop-weight l = l.weights ≡ map halve_weight (take l.weight-index l.initial.weights) ++ drop l.weight-index l.initial.weights
