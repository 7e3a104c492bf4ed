use Rattle.std.proofs.Common.{sym, ◌∙◌}
use Rattle.std.specs.FinMap.{len}
use Rattle.enet_packets.proofs.Maps.{values-sorted}
use Rattle.enet_packets.proofs.waiting.Waiting.packets.Goals as goal

pub returns : goal.returns
returns c = rw (← c.self.view_is) (c.self.invariant.packets_counted ∙ sym (values-sorted c.self.inside.lines.entries c.self.invariant.lines.sorted len))
