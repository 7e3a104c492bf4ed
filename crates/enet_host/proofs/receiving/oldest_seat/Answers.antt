use Rattle.std.proofs.Common.{Bool, None, cond, sym, ap, ◌∙◌}
use Rattle.enet_slot.specs.Slotted.{all_shown}
use Rattle.enet_slot.specs.Yielding.{oldest}
use Rattle.enet_host.proofs.receiving.oldest_seat.Goals as goal

pub oldest-requires : goal.oldest-requires
oldest-requires c = (c.args.start.now.clock, c.requires)

pub returns-then-start-clause-seat : goal.returns-then-start-clause-seat
returns-then-start-clause-seat c =
    c.oldest.ensures.oldest c.args.start.now.clock c.requires
    ∙ ap (λ (b : Bool). cond b (oldest c.args.start.now.clock c.args.start.now.config.generations (all_shown c.args.slots.now)) None) (sym c.if-start.true)

pub returns-then-start-clause-kept : goal.returns-then-start-clause-kept
returns-then-start-clause-kept c = c.oldest.ensures.kept c.args.start.now.clock c.requires
