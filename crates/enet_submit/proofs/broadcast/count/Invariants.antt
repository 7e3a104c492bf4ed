use Rattle.std.proofs.Common.{◌≡◌, length, take}
use Rattle.enet_codec.specs.Outward.{errands}
use Rattle.enet_submit.proofs.broadcast.count.Given as goal

abbrev pub invariant-loop-peer : goal.invariant-loop-peer
invariant-loop-peer l = l.all ≡ length (errands (take l.peer-index l.peers) l.packets)
