use Rattle.std.proofs.Common.{◌≡◌, ◌≤◌, length, take}
use Rattle.slab.specs.Slab.{get}
use Rattle.enet_senders.specs.Senders.{ends_of, KeepsAll}
use Rattle.enet_senders.proofs.Dropping.{AreBare}
use Rattle.enet_senders.proofs.senders.keep_first.Given as goal

abbrev pub invariant-loop-dropped : goal.invariant-loop-dropped
invariant-loop-dropped l = record {
  kept : KeepsAll (get l.pending.slab) l.channels.items;
  ends : take l.count (ends_of l.pending.slab l.channels.items) ≡ take l.count (ends_of l.initial.pending.slab l.initial.channels.items);
  bare : AreBare l.count l.dropped (ends_of l.pending.slab l.channels.items);
  len : length l.channels.items ≡ length l.initial.channels.items;
  start : l.count ≤ l.dropped;
  end : l.dropped-end ≡ length l.initial.channels.items;
}
