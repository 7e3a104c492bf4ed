use Rattle.std.proofs.Common.{sym, ◌∙◌, arith}
use Rattle.enet_packets.proofs.Maps.{len-sorted, length_bounded}
use Rattle.enet_packets.proofs.packets.Packets.len.Goals as goal

pub returns-clause-len : goal.returns-clause-len
returns-clause-len c = rw (← c.self.view_is) (c.len.ensures.len ∙ sym (len-sorted c.self.inside.packets.entries c.self.invariant.sorted))

pub returns-clause-small : goal.returns-clause-small
returns-clause-small c = let few = length_bounded c.self.inside.packets.entries c.self.invariant.sorted c.self.invariant.numbers in omega (arith, c.len.ensures.len)
