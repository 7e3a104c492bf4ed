use Rattle.std.proofs.Common.{◌≡◌, ◌++◌, take}
use Rattle.enet_chat.specs.Private.Grouping.{relayed_to}
use Rattle.enet_chat.proofs.batch.put_all_for.Given as goal

abbrev pub invariant-loop-at : goal.invariant-loop-at
invariant-loop-at l = l.orders.items ≡ l.fn.orders.items ++ relayed_to l.peer (take l.at l.backlog.items)
