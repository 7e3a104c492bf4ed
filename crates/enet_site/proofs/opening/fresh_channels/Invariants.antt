use Rattle.std.proofs.Common.{◌≡◌, replicate, vec_len, vec_capacity}
use Rattle.law_network.specs.Log.{no_packets}
use Rattle.enet_site.proofs.opening.fresh_channels.Given as goal

abbrev pub invariant-loop-channel : goal.invariant-loop-channel
invariant-loop-channel l = record {
  items : l.all.items ≡ replicate l._channel no_packets;
  len : vec_len l.all ≡ l._channel;
  capacity : vec_capacity l.all ≡ 256;
}
