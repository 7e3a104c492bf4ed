use Rattle.std.proofs.Common.{ℕ, ◌-◌, ◌<◌, ◌≤◌}
use Rattle.enet_senders.specs.Sets.{Lacks}
use Rattle.enet_senders.proofs.channel_set.ChannelSet.next.Given as goal

abbrev pub invariant-words : goal.invariant-words
invariant-words l = record {
  later : l.from ≤ l.next;
  lacks : (i : ℕ) → l.from ≤ i → i < l.next → Lacks l.self i;
}

abbrev pub decreases-words : goal.decreases-words
decreases-words l = 256 - l.next
