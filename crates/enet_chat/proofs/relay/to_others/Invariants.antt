use Rattle.std.proofs.Common.{◌≡◌, take}
use Rattle.enet_chat.specs.Peers.{others}
use Rattle.enet_chat.specs.Chat.{to_each}
use Rattle.enet_chat.proofs.relay.to_others.Given as goal

abbrev pub invariant-loop-peer : goal.invariant-loop-peer
invariant-loop-peer l = l.orders.items ≡ to_each (others (take l.peer-index l.peers) l.from) l.channel l.flags l.body
