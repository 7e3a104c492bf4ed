use Rattle.std.proofs.Common.{◌≡◌, ◌++◌, length, map, take, drop}
use Rattle.enet_senders.specs.Private.Seeking.{seeking}
use Rattle.enet_senders.proofs.senders.seek_anew.Given as goal

abbrev pub invariant-loop-channel : goal.invariant-loop-channel
invariant-loop-channel l = record {
  done : l.channels.items ≡ map seeking (take l.channel l.initial.channels.items) ++ drop l.channel l.initial.channels.items;
  end : l.channel-end ≡ length l.initial.channels.items;
}
