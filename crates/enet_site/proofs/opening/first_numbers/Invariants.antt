use Rattle.std.proofs.Common.{◌≡◌, replicate, vec_len, vec_capacity}
use Rattle.enet_site.proofs.opening.first_numbers.Given as goal

abbrev pub invariant-loop-channel : goal.invariant-loop-channel
invariant-loop-channel l = record {
  items : l.all.items ≡ replicate l._channel 0;
  len : vec_len l.all ≡ l._channel;
  capacity : vec_capacity l.all ≡ 256;
}
