use Rattle.std.proofs.Common.{◌≡◌, ◌+◌, ◌≤◌, ◌++◌}
use Rattle.std.specs.Prelude.{nat_lt}
use Rattle.std.specs.Ordering.{nat_cmp}
use Rattle.std.specs.BTreeMap.{btree_map_len}
use Rattle.std.specs.FinMap.Entries.{where_key}
use Rattle.std.specs.VecDeque.{deque_len, deque_capacity}
use Rattle.enet_packets.specs.Invariant.{AreWholeUpTo, KeepsPackets}
use Rattle.enet_packets.specs.Packets.{fresh}
use Rattle.enet_packets.proofs.packets.Packets.dispatch.Given as goal

abbrev pub invariant-loop-number : goal.invariant-loop-number
invariant-loop-number l = record {
  keeps : KeepsPackets l.self-inside.packets.entries l.self-inside.bytes l.self-inside.last_whole;
  whole : AreWholeUpTo l.until l.self-inside.packets.entries;
  items : l.dispatched.items ++ fresh l.first l.self-inside.packets.entries ≡ l.initial.dispatched.items ++ fresh l.first l.initial.self-inside.packets.entries;
  stays : where_key nat_cmp (nat_lt l.until) l.self-inside.packets.entries ≡ where_key nat_cmp (nat_lt l.until) l.initial.self-inside.packets.entries;
  room : deque_len l.dispatched + btree_map_len l.self-inside.packets ≤ deque_len l.initial.dispatched + btree_map_len l.initial.self-inside.packets;
  within : deque_len l.dispatched + btree_map_len l.self-inside.packets ≤ deque_capacity l.dispatched;
  capacity : deque_capacity l.dispatched ≡ deque_capacity l.initial.dispatched;
}

abbrev pub decreases-loop-number : goal.decreases-loop-number
decreases-loop-number l = btree_map_len l.self-inside.packets
