use Rattle.std.proofs.Common.{◌≡◌, take}
use Rattle.enet_chat.specs.Private.Grouping.{outwards}
use Rattle.enet_chat.proofs.batch.packets_of.Given as goal

abbrev pub invariant-loop-at : goal.invariant-loop-at
invariant-loop-at l = l.packets.items ≡ outwards (take l.at l.backlog.items)
