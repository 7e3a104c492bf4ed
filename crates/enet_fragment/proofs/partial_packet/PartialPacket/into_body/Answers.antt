use Rattle.std.proofs.Common.{sym, ap, ◌∙◌}
use Rattle.enet_fragment.specs.PartialPacket.{PartialPacket, joined}
use Rattle.enet_fragment.proofs.Laws.{joined-whole_of}
use Rattle.enet_fragment.proofs.Wholes.{whole_seen, kept_seen}
use Rattle.enet_fragment.proofs.partial_packet.PartialPacket.into_body.Goals as goal

pub returns : goal.returns
returns c =
    let some = (kept_seen _ _ _ _ c.self.invariant c.in-Whole.is).0 in
    let here = whole_seen _ _ _ _ _ c.self.view_is c.in-Whole.is in
    sym (joined-whole_of c.in-Whole.body c.in-Whole.count c.in-Whole.cut some) ∙ ap (λ (m : PartialPacket). joined m.pieces) here
