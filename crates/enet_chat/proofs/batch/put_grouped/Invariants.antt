use Rattle.std.proofs.Common.{◌≡◌, ◌++◌, take}
use Rattle.enet_chat.specs.Private.Grouping.{grouped}
use Rattle.enet_chat.proofs.batch.put_grouped.Given as goal

abbrev pub invariant-loop-peer : goal.invariant-loop-peer
invariant-loop-peer l = l.orders.items ≡ l.fn.orders.items ++ grouped (take l.peer-index l.peers) (take l.count l.backlog.items)
