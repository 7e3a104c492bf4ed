use Rattle.std.proofs.Common.{sym, ◌∙◌}
use Rattle.enet_packets.specs.Invariant.{total_of}
use Rattle.enet_packets.proofs.Maps.{values-sorted}
use Rattle.enet_packets.proofs.PacketLemmas.{bytes_bounded}
use Rattle.enet_packets.proofs.packets.Packets.bytes.Goals as goal

pub returns-clause-bytes : goal.returns-clause-bytes
returns-clause-bytes c = rw (← c.self.view_is) (c.self.invariant.counted ∙ sym (values-sorted c.self.inside.packets.entries c.self.invariant.sorted total_of))

pub returns-clause-small : goal.returns-clause-small
returns-clause-small c = bytes_bounded c.self.inside.packets.entries c.self.inside.bytes c.self.inside.last_whole c.self.invariant
