use Rattle.std.proofs.Common.{◌≡◌, ◌+◌, ◌≤◌}
use Rattle.std.specs.VecDeque.{deque_len, deque_capacity}
use Rattle.slab.specs.Slab.{get}
use Rattle.enet_sender.specs.Sender.{skipped}
use Rattle.enet_sender.specs.Pending.{Passes, named}
use Rattle.enet_sender.specs.Rings.{Keeps, rings_of, keys_of, commands_at}
use Rattle.enet_sender.proofs.outgoing.Outgoing.skip.Given as goal

abbrev pub invariant-further : goal.invariant-further
invariant-further l = record {
  kept : Keeps (get l.pending.slab) (rings_of l.self);
  passes : Passes (get l.initial.pending.slab) (get l.pending.slab) (keys_of (rings_of l.initial.self)) (keys_of (rings_of l.self));
  channel : l.self.channel ≡ l.initial.self.channel;
  number : l.self.number ≡ l.initial.self.number;
  unreliable : l.self.unreliable ≡ l.initial.self.unreliable;
  queued : skipped (commands_at (get l.pending.slab) l.self.queued.items) ≡ skipped (commands_at (get l.initial.pending.slab) l.initial.self.queued.items);
  sent : named (get l.pending.slab) l.self.sent.items ≡ named (get l.initial.pending.slab) l.initial.self.sent.items;
  room : deque_len l.initial.self.sent + deque_len l.initial.self.queued ≤ deque_capacity l.initial.self.sent → deque_len l.self.sent + deque_len l.self.queued ≤ deque_capacity l.self.sent;
}

abbrev pub decreases-further : goal.decreases-further
decreases-further l = deque_len l.self.queued
