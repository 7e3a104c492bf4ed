use Rattle.std.proofs.Common.{sym, ◌∙◌}
use Rattle.enet_packets.specs.Packets.{bytes_of}
use Rattle.enet_packets.proofs.Maps.{values-sorted}
use Rattle.enet_packets.proofs.waiting.Waiting.bytes.Goals as goal

pub returns : goal.returns
returns c = rw (← c.self.view_is) (c.self.invariant.bytes_counted ∙ sym (values-sorted c.self.inside.lines.entries c.self.invariant.lines.sorted bytes_of))
