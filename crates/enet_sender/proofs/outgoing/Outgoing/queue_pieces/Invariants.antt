use Rattle.std.proofs.Common.{◌≡◌, ◌+◌, ◌-◌, map}
use Rattle.std.specs.List.{range_with_len}
use Rattle.std.specs.VecDeque.{deque_len, deque_capacity}
use Rattle.slab.specs.Slab.{get, slab_len}
use Rattle.enet_fragment.specs.Cutting.{piece_length}
use Rattle.enet_sender.specs.Sender.{piece_of_body}
use Rattle.enet_sender.specs.Private.Queues.{Queues}
use Rattle.enet_sender.proofs.outgoing.Outgoing.queue_pieces.Given as goal

abbrev pub invariant-loop-i : goal.invariant-loop-i
invariant-loop-i l = record {
  queues : Queues l.course l._body l.i (record { outgoing = l.initial.self; at = get l.initial.pending.slab }) (record { outgoing = l.self; at = get l.pending.slab });
  pieces : l.pieces.items ≡ map (piece_of_body (piece_length l.course.mtu) l._body) (range_with_len l.i (l.course.pieces - l.i));
  slab_len : slab_len l.pending.slab ≡ slab_len l.initial.pending.slab + l.i;
  slab_capacity : l.pending.slab.capacity ≡ l.initial.pending.slab.capacity;
  len : deque_len l.self.queued ≡ deque_len l.initial.self.queued + l.i;
  capacity : deque_capacity l.self.queued ≡ deque_capacity l.initial.self.queued;
  sent : l.self.sent ≡ l.initial.self.sent;
}
