use Rattle.std.proofs.Common.{Some, sym, ap, ◌∙◌}
use Rattle.enet_packets.specs.declared.incoming_packet.IncomingPacket.{IncomingPacket}
use Rattle.enet_packets.proofs.Maps.{get-from}
use Rattle.enet_packets.proofs.packets.Packets.get.Goals as goal

pub returns-in-Some : goal.returns-in-Some
returns-in-Some c =
    rw (← c.self.view_is)
    (ap (λ (p : IncomingPacket). Some p) c.packet.ensures ∙ c.in-Some.ensures.value ∙ sym (get-from c.self.inside.packets.entries c.args.number))

pub returns-in-None : goal.returns-in-None
returns-in-None c = rw (← c.self.view_is) (c.in-None.ensures.value ∙ sym (get-from c.self.inside.packets.entries c.args.number))
