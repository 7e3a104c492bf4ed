use Rattle.std.proofs.Common.{ℕ, ◌/◌, ◌<◌}
use Rattle.enet_senders.specs.Sets.{Lacks}
use Rattle.enet_senders.proofs.channel_set.ChannelSet.join.Given as goal

abbrev pub invariant-loop-place : goal.invariant-loop-place
invariant-loop-place l = record {
  kept : (i : ℕ) → Lacks l.self i → Lacks l.initial.self i;
  joined : (i : ℕ) → i / 64 < l.place → Lacks l.self i → Lacks l.other i;
}
