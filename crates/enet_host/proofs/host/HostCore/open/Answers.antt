use Rattle.enet_host.proofs.Holding.{keeps-opened}
use Rattle.enet_host.proofs.host.HostCore.open.Goals as goal

pub with_slots-requires : goal.with_slots-requires
with_slots-requires c = keeps-opened c.args.config c.is_in_range.result c.in_ok-sleepers.sleepers c.in_ok-seats.seats c.in_ok-unproved.unproved c.in_ok-slots.slots.items c.is_in_range.ensures c.if-not-is_in_range.false c.in_ok-sleepers.ensures.kept (c.in_ok-unproved.ensures.kept c.args.config.generations) c.in_ok-seats.ensures.kept c.in_ok-slots.ensures.slots
