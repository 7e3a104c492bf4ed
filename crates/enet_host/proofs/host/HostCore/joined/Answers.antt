use Rattle.std.proofs.Common.{sym, ◌∙◌, arith}
use Rattle.enet_host.proofs.Holding.{in-range, keeps-joined}
use Rattle.enet_host.proofs.host.HostCore.joined.Goals as goal

pub with_slots-requires : goal.with_slots-requires
with_slots-requires c =
    keeps-joined c.args.config c.args.address c.is_in_range.result c.in_ok-sleepers.sleepers c.in_ok-seats.seats c.enter.new.self c.in_ok-unproved.unproved c.in_ok-slots.slots.items c.is_in_range.ensures c.if-not-is_in_range.false c.in_ok-sleepers.ensures.kept (c.in_ok-unproved.ensures.kept c.args.config.generations) c.in_ok-seats.ensures.kept c.enter.ensures c.in_ok-slots.ensures.slots

pub enter-requires : goal.enter-requires
enter-requires c = let low = (in-range c.args.config (sym c.is_in_range.ensures ∙ c.if-not-is_in_range.false)).0 in omega (arith, low, c.in_ok-seats.ensures.count)
