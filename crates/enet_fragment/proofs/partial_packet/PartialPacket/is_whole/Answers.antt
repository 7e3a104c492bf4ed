use Rattle.std.proofs.Common.{sym, ap, ◌∙◌}
use Rattle.enet_fragment.specs.PartialPacket.{PartialPacket}
use Rattle.enet_fragment.specs.Whole.{is_whole}
use Rattle.enet_fragment.proofs.Laws.{is_whole-whole_of}
use Rattle.enet_fragment.proofs.Wholes.{whole_seen}
use Rattle.enet_fragment.proofs.partial_packet.PartialPacket.is_whole.Goals as goal

pub returns-in-Whole : goal.returns-in-Whole
returns-in-Whole c =
    sym (is_whole-whole_of c.in-Whole.body c.in-Whole.count c.in-Whole.cut) ∙ ap (λ (m : PartialPacket). is_whole m) (whole_seen _ _ _ _ _ c.self.view_is c.in-Whole.is)
