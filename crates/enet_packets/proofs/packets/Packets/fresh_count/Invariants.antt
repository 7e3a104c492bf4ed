use Rattle.std.proofs.Common.{◌≡◌, ◌+◌, length}
use Rattle.std.specs.FinMap.{entries}
use Rattle.std.specs.Ordering.{nat_cmp}
use Rattle.std.specs.List.Sorted.{IsStrictlySortedBy}
use Rattle.std.specs.Map.{keys_of}
use Rattle.enet_packets.specs.Invariant.{AreWholeUpTo}
use Rattle.enet_packets.specs.Packets.{fresh}
use Rattle.enet_packets.proofs.packets.Packets.fresh_count.Given as goal

abbrev pub invariant-loop-number : goal.invariant-loop-number
invariant-loop-number l = record {
  so_far : l.count + length (fresh l.first l.number-iterator) ≡ length (fresh l.first (entries l.self));
  sorted : IsStrictlySortedBy nat_cmp (keys_of l.number-iterator);
  whole : AreWholeUpTo l.self-inside.last_whole l.number-iterator;
}
