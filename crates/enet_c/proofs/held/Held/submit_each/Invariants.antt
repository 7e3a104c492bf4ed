use Rattle.std.proofs.Common.{◌≡◌, take, map}
use Rattle.enet_codec.specs.Outward.{errands}
use Rattle.enet_host.specs.Broadcast.{SubmitsEach}
use Rattle.enet_c.specs.Shapes.{name_meant}
use Rattle.enet_c.proofs.held.Held.submit_each.Given as goal

abbrev pub invariant-loop-peer : goal.invariant-loop-peer
invariant-loop-peer l = SubmitsEach l.fn.self.host.send_limit (errands (map name_meant (take l.peer-index l.peers)) l.packets) l.told l.fn.self.host.slots l.self.host.slots
    × (l.self ≡ record l.fn.self { host = record l.fn.self.host { slots = l.self.host.slots } })
