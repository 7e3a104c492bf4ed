use Rattle.std.proofs.Common.{◌≡◌, ◌*◌, ◌≤◌, drop}
use Rattle.enet_range_coder.specs.Context.{reach}
use Rattle.enet_range_coder.specs.Memory.{all_from}
use Rattle.enet_range_coder.proofs.root.row_of.Given as goal

abbrev pub invariant-loop : goal.invariant-loop
invariant-loop l = record {
  first : l.row.first ≡ 16 * l.counter;
  bound : l.row.below ≤ 256 * l.row.first;
  rest : reach (all_from l.row.first (drop l.row.first l.weights)) l.aim l.row.below ≡ reach (all_from 0 l.weights) l.aim 0;
}
