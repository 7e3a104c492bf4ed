use Rattle.std.proofs.Common.{◌≡◌, ◌≤◌, ◌+◌}
use Rattle.std.specs.VecDeque.{deque_len, deque_capacity}
use Rattle.std.specs.FinMap.{len}
use Rattle.enet_seq.specs.Numbering.{wire}
use Rattle.enet_packets.specs.Packets.{packets_in}
use Rattle.enet_receiver.specs.Receiver.{all_released}
use Rattle.enet_receiver.specs.Laws.{HavePieces}
use Rattle.enet_receiver.specs.ReceiverParts.{receiver_of}
use Rattle.enet_receiver.proofs.releasing.release.Given as goal

abbrev pub invariant-loop-coming : goal.invariant-loop-coming
invariant-loop-coming l = record {
  same : all_released wire (receiver_of l.front l.unreliable l.held l.waiting l.dispatched.items)
      ≡ all_released wire (receiver_of l.initial.front l.initial.unreliable l.initial.held l.initial.waiting l.initial.dispatched.items);
  pieces : HavePieces (receiver_of l.front l.unreliable l.held l.waiting l.dispatched.items);
  room : deque_len l.dispatched + (len l.held + packets_in l.waiting) ≤ deque_capacity l.dispatched;
}

abbrev pub decreases-loop-coming : goal.decreases-loop-coming
decreases-loop-coming l = len l.held
