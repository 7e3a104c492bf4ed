use Rattle.std.proofs.Common.{◌≡◌, ◌<◌, ◌≤◌, ◌+◌, ◌-◌, ◌%◌, length}
use Rattle.enet_outbox.specs.Emission.{Filling}
use Rattle.enet_outbox.specs.Private.Packing.{Holds, Shares}
use Rattle.enet_outbox.proofs.Channels.{ChannelsAt}
use Rattle.enet_outbox.proofs.packing.pack_channels.Given as goal

abbrev pub invariant-turns : goal.invariant-turns
invariant-turns l = record {
  len : length l.senders ≡ length l.initial.senders;
  within : l.next.turn ≤ length l.initial.senders;
  channel : l.next.turn < length l.initial.senders → l.next.channel ≡ (l.first + l.next.turn) % length l.initial.senders;
  low : l.next.channel ≤ 255;
  stage : (f : Filling) → Holds f l.initial.progress l.initial.buf → f.outbox.senders ≡ l.initial.senders → Shares f.outbox l.initial.flow →
      ChannelsAt l.pace l.first (length l.initial.senders) l.next.turn f l.senders l.flow l.progress l.buf;
}

abbrev pub decreases-turns : goal.decreases-turns
decreases-turns l = length l.initial.senders - l.next.turn
