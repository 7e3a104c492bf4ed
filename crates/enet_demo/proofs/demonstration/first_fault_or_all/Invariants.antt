use Rattle.std.proofs.Common.{◌≡◌, take, map, Ok}
use Rattle.enet_demo.proofs.demonstration.first_fault_or_all.Given as goal

abbrev pub invariant-loop-outcome : goal.invariant-loop-outcome
invariant-loop-outcome l = map Ok l.visits.items ≡ take l.outcome-index l.outcomes
