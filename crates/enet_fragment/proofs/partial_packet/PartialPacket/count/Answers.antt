use Rattle.std.proofs.Common.{sym, ap, ◌∙◌}
use Rattle.enet_fragment.specs.PartialPacket.{PartialPacket, count_of}
use Rattle.enet_fragment.proofs.Laws.{count_of-whole_of}
use Rattle.enet_fragment.proofs.Wholes.{whole_seen}
use Rattle.enet_fragment.proofs.partial_packet.PartialPacket.count.Goals as goal

pub returns-in-Whole-clause-value : goal.returns-in-Whole-clause-value
returns-in-Whole-clause-value c =
    sym (count_of-whole_of c.in-Whole.body c.in-Whole.count c.in-Whole.cut) ∙ ap (λ (m : PartialPacket). count_of m) (whole_seen _ _ _ _ _ c.self.view_is c.in-Whole.is)
