use Rattle.std.proofs.Common.{take}
use Rattle.enet_codec.specs.Outward.{errands_for}
use Rattle.enet_host.specs.Host.{KeepsRest}
use Rattle.enet_host.specs.Broadcast.{SubmitsEach}
use Rattle.enet_host.proofs.host.HostCore.submit_all.Given as goal

abbrev pub invariant-loop-packet : goal.invariant-loop-packet
invariant-loop-packet l = SubmitsEach l.fn.self.send_limit (errands_for (take l.packet-index l.packets) l.peer) l.told l.fn.self.slots l.self.slots × KeepsRest l.fn.self l.self
