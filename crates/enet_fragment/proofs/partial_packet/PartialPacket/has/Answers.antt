use Rattle.std.proofs.Common.{is_some, sym, ap, ◌∙◌}
use Rattle.enet_fragment.specs.PartialPacket.{PartialPacket, piece_at}
use Rattle.enet_fragment.proofs.Laws.{piece_at-whole_of}
use Rattle.enet_fragment.proofs.Wholes.{whole_seen}
use Rattle.enet_fragment.proofs.partial_packet.PartialPacket.has.Goals as goal

pub returns-in-Whole : goal.returns-in-Whole
returns-in-Whole c =
    sym (piece_at-whole_of c.in-Whole.body c.in-Whole.count c.in-Whole.cut c.args.number)
    ∙ ap (λ (m : PartialPacket). is_some (piece_at m c.args.number)) (whole_seen _ _ _ _ _ c.self.view_is c.in-Whole.is)
