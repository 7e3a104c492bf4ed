use Rattle.std.proofs.Common.{◌≡◌, ◌≤◌, length, vec_len, vec_capacity}
use Rattle.slab.specs.Slab.{get}
use Rattle.enet_senders.specs.Senders.{ends_of, KeepsAll}
use Rattle.enet_senders.specs.Made.{all_ends}
use Rattle.enet_senders.proofs.senders.make_up_to.Given as goal

abbrev pub invariant-loop-next : goal.invariant-loop-next
invariant-loop-next l = record {
  kept : KeepsAll (get l._pending.slab) l.channels.items;
  ends : ends_of l._pending.slab l.channels.items ≡ all_ends l.next (ends_of l._pending.slab l.fn.channels.items);
  len : vec_len l.channels ≡ l.next;
  start : length l.fn.channels.items ≤ l.next;
  past : l.next ≤ l.count;
  room : l.count ≤ vec_capacity l.channels;
}
