use Rattle.std.proofs.Common.{◌≡◌}
use Rattle.std.specs.FinMap.{entries}
use Rattle.std.specs.Ordering.{nat_cmp}
use Rattle.std.specs.List.Sorted.{IsStrictlySortedBy}
use Rattle.std.specs.Map.{keys_of}
use Rattle.enet_packets.specs.Invariant.{AreWholeUpTo}
use Rattle.enet_packets.specs.Packets.{last_fresh}
use Rattle.enet_packets.proofs.packets.Packets.last_fresh.Given as goal

abbrev pub invariant-loop-number : goal.invariant-loop-number
invariant-loop-number l = record {
  so_far : last_fresh l.newest l.number-iterator ≡ last_fresh l.last (entries l.self);
  sorted : IsStrictlySortedBy nat_cmp (keys_of l.number-iterator);
  whole : AreWholeUpTo l.self-inside.last_whole l.number-iterator;
}
