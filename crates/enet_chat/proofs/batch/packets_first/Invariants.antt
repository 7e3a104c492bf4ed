use Rattle.std.proofs.Common.{◌-◌, ◌≤◌, length, take}
use Rattle.enet_chat.specs.Private.Relaying.{ArePackets}
use Rattle.enet_chat.proofs.batch.packets_first.Given as goal

abbrev pub invariant-loop-count : goal.invariant-loop-count
invariant-loop-count l = (l.count ≤ length l.backlog.items) × ArePackets (take l.count l.backlog.items)

abbrev pub decreases-loop-count : goal.decreases-loop-count
decreases-loop-count l = l.most - l.count
