use Rattle.std.proofs.Common.{◌≡◌, ◌+◌, ◌*◌, ◌≤◌, drop}
use Rattle.enet_range_coder.specs.Context.{weigh}
use Rattle.enet_range_coder.specs.Memory.{all_from}
use Rattle.enet_range_coder.proofs.root.weigh_all.Given as goal

abbrev pub invariant-loop-weight : goal.invariant-loop-weight
invariant-loop-weight l = record {
  bound : l.sum ≤ 256 * l.weight-index;
  weight : l.sum + weigh (all_from l.weight-index (drop l.weight-index l.weights)) ≡ weigh (all_from 0 l.weights);
}
