use Rattle.std.proofs.Common.{◌≡◌, ◌≤◌, map}
use Rattle.std.specs.List.{range_with_len}
use Rattle.std.specs.VecDeque.{deque_len, deque_capacity}
use Rattle.enet_fragment.specs.Cutting.{piece_length}
use Rattle.enet_sender.specs.Sender.{piece_of_body}
use Rattle.enet_sender.proofs.outgoing.cut_all.Given as goal

abbrev pub invariant-loop-i : goal.invariant-loop-i
invariant-loop-i l = record {
  items : l.pieces.items ≡ map (piece_of_body (piece_length l.course.mtu) l.body) (range_with_len 0 l.i);
  len : deque_len l.pieces ≡ l.i;
  room : l.course.pieces ≤ deque_capacity l.pieces;
}
