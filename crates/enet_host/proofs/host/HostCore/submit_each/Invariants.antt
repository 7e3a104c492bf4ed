use Rattle.std.proofs.Common.{take}
use Rattle.enet_codec.specs.Outward.{errands}
use Rattle.enet_host.specs.Host.{KeepsRest}
use Rattle.enet_host.specs.Broadcast.{SubmitsEach}
use Rattle.enet_host.proofs.host.HostCore.submit_each.Given as goal

abbrev pub invariant-loop-peer : goal.invariant-loop-peer
invariant-loop-peer l = SubmitsEach l.fn.self.send_limit (errands (take l.peer-index l.peers) l.packets) l.told l.fn.self.slots l.self.slots × KeepsRest l.fn.self l.self
