use Rattle.std.proofs.Common.{sym, ◌∙◌}
use Rattle.enet_fragment.proofs.Places.{outcome_again, outcome_bad}
use Rattle.enet_fragment.proofs.Wholes.{whole_seen, whole-misses_none}
use Rattle.enet_fragment.proofs.partial_packet.PartialPacket.foresee.Goals as goal

pub returns-then-belongs : goal.returns-then-belongs
returns-then-belongs c =
    let belongs = sym c.belongs.ensures ∙ c.if-belongs.true in
    let here = whole_seen _ _ _ _ _ c.self.view_is c.in-Whole.is in
    outcome_again _ c.args.place belongs (whole-misses_none _ _ _ _ c.args.place here belongs)

pub returns-else-belongs : goal.returns-else-belongs
returns-else-belongs c = outcome_bad _ c.args.place (sym c.belongs.ensures ∙ c.if-belongs.false)
