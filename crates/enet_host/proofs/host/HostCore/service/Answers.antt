use Rattle.std.proofs.Common.{ℕ, ap, sym, ◌∙◌}
use Rattle.enet_slot.specs.Slotted.{all_shown}
use Rattle.enet_slot.proofs.Shown.{length-shown}
use Rattle.enet_host.specs.contracts.host.HostCore.{the_view}
use Rattle.enet_host.specs.Crediting.{with_went}
use Rattle.enet_host.specs.Turns.{slot_after}
use Rattle.enet_host.proofs.Holding.{all-minded, minded, keeps-after, served-held, passed-held}
use Rattle.enet_host.proofs.Limits.{minds-lasts, passed-holds, served-holds}
use Rattle.enet_host.proofs.Telling.{serves-at}
use Rattle.enet_host.proofs.host.HostCore.service.Goals as goal

pub invariant_of-self : goal.invariant_of-self
invariant_of-self c =
    keeps-after c.self.inside.start.config.peers c.self.inside.start.clock c.self.inside.start.clock c.self.inside.start.config.generations c.self.inside.start.config.max_packet c.self.inside.start.config.max_waiting c.self.inside.service_from c.self.inside.event_from c.self.inside.service_from c.self.inside.event_from c.self.inside.sleepers c.emit.new.sleepers
    c.self.inside.seats c.self.inside.seats c.self.inside.unproved c.self.inside.unproved c.self.inside.slots.items c.emit.new.slots.items c.self.invariant
    c.emit.ensures.count c.self.invariant.service c.self.invariant.event
    (passed-held _ (all_shown c.self.inside.slots.items) (all_shown c.emit.new.slots.items) c.self.invariant.held c.in_default.ensures.passes, c.emit.ensures.sleepers)
    (minded c.emit.new.slots.items c.self.invariant c.emit.ensures.count (passed-holds _ (minds-lasts _ _ _ _ _) _ (all_shown c.self.inside.slots.items) (all_shown c.emit.new.slots.items) (all-minded c.self.invariant) c.in_default.ensures.passes))

pub invariant_of-self-2 : goal.invariant_of-self-2
invariant_of-self-2 c =
    keeps-after c.self.inside.start.config.peers c.self.inside.start.clock c.self.inside.start.clock c.self.inside.start.config.generations c.self.inside.start.config.max_packet c.self.inside.start.config.max_waiting c.self.inside.service_from c.self.inside.event_from c.slot_after-self-inside.result c.self.inside.event_from c.self.inside.sleepers c.emit.new.sleepers
    c.self.inside.seats c.self.inside.seats c.self.inside.unproved c.self.inside.unproved c.self.inside.slots.items c.emit.new.slots.items c.self.invariant
    c.emit.ensures.count c.slot_after-self-inside.ensures.within c.self.invariant.event
    (served-held _ _ (all_shown c.self.inside.slots.items) (all_shown c.emit.new.slots.items) _ c.self.invariant.held c.in-Some.ensures.gives, c.emit.ensures.sleepers)
    (minded c.emit.new.slots.items c.self.invariant c.emit.ensures.count (served-holds _ (minds-lasts _ _ _ _ _) _ _ (all_shown c.self.inside.slots.items) (all_shown c.emit.new.slots.items) _ (all-minded c.self.invariant) c.in-Some.ensures.gives))

pub returns-clause-serves : goal.returns-clause-serves
returns-clause-serves c =
    let inside = c.self.inside in
    serves-at (the_view inside) c.args.self.now (all_shown c.emit.new.slots.items) c.slot_after-self-inside.result c.with_datagram_out-self-inside.result c.count_went.new.credits.items c.in-Some.sent c.emit.new.buf c.self.view_is
    c.in-Some.ensures.gives
    (c.slot_after-self-inside.ensures.after ∙ ap (λ (m : ℕ). slot_after m c.in-Some.sent.0.slot) (sym (length-shown inside.slots.items ∙ c.self.invariant.count)))
    c.with_datagram_out-self-inside.ensures
    (c.count_went.ensures ∙ ap (λ (i : ℕ). with_went inside.credits.items i c.in-Some.sent.2) c.from.ensures)
