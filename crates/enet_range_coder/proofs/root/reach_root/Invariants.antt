use Rattle.std.proofs.Common.{◌≡◌, ◌*◌, ◌≤◌, drop}
use Rattle.enet_range_coder.specs.Context.{reach}
use Rattle.enet_range_coder.specs.Memory.{all_from}
use Rattle.enet_range_coder.proofs.root.reach_root.Given as goal

abbrev pub invariant-loop-byte : goal.invariant-loop-byte
invariant-loop-byte l = record {
  bound : l.below ≤ 256 * l.byte;
  rest : reach (all_from l.byte (drop l.byte l.weights)) l.aim l.below ≡ reach (all_from 0 l.weights) l.aim 0;
}
