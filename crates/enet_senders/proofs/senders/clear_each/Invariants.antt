use Rattle.std.proofs.Common.{◌≡◌, length}
use Rattle.slab.specs.Slab.{get}
use Rattle.enet_senders.specs.Senders.{ends_of, KeepsAll, cleared_end}
use Rattle.enet_senders.proofs.Each.{partly}
use Rattle.enet_senders.proofs.senders.clear_each.Given as goal

abbrev pub invariant-loop-channel : goal.invariant-loop-channel
invariant-loop-channel l = record {
  kept : KeepsAll (get l.pending.slab) l.channels.items;
  ends : ends_of l.pending.slab l.channels.items ≡ partly cleared_end l.channel (ends_of l.initial.pending.slab l.initial.channels.items);
  len : length l.channels.items ≡ length l.initial.channels.items;
  end : l.channel-end ≡ length l.initial.channels.items;
}
