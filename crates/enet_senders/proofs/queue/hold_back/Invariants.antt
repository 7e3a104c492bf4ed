use Rattle.std.proofs.Common.{◌≡◌, ◌++◌, map, take, drop}
use Rattle.std.specs.VecDeque.{deque_len, deque_capacity}
use Rattle.enet_senders.specs.Controlling.{held_back}
use Rattle.enet_senders.proofs.queue.hold_back.Given as goal

abbrev pub invariant-loop-place : goal.invariant-loop-place
invariant-loop-place l = record {
  items : l.sent.items ≡ map (held_back l.tick) (take l.place l.initial.sent.items) ++ drop l.place l.initial.sent.items;
  len : deque_len l.sent ≡ deque_len l.initial.sent;
  capacity : deque_capacity l.sent ≡ deque_capacity l.initial.sent;
  end : l.place-end ≡ deque_len l.initial.sent;
}
