use Rattle.std.proofs.Common.{arith}
use Rattle.std.specs.Option.{option_copied}
use Rattle.enet_host.proofs.Serving.{slot-shows}
use Rattle.enet_host.proofs.events.packet_of.Goals as goal

pub returns : goal.returns
returns c =
    slot-shows c.args.slots.now c.from.result c.args.number c.index-slots-from.result (option_copied c.next_packet.result) c.from.ensures
    (let e = c.from.ensures in let within = c.requires in grind (arith, e, within)) c.index-slots-from.is c.next_packet.ensures
