use Rattle.std.proofs.Common.{ℕ, subst, ap, sym, ◌∙◌}
use Rattle.enet_host.specs.contracts.host.HostCore.{the_view}
use Rattle.enet_host.specs.Host.{Host}
use Rattle.enet_host.specs.Turns.{IsFirst, slot_after}
use Rattle.enet_slot.specs.Calls.{tells}
use Rattle.enet_slot.specs.Slotted.{all_shown}
use Rattle.enet_slot.proofs.Shown.{length-shown}
use Rattle.enet_host.proofs.Telling.{takes-at}
use Rattle.enet_host.proofs.Holding.{all-minded, minded, keeps-after, gave-held}
use Rattle.enet_host.proofs.Limits.{minds-lasts, gave-holds}
use Rattle.enet_host.proofs.Sleeping.{keeps-gives-event, teller-awake}
use Rattle.enet_host.proofs.host.HostCore.next_event.Goals as goal

pub returns : goal.returns
returns c =
    let inside = c.self.inside in
    takes-at (the_view inside) c.args.self.now (all_shown c.take_from.new.slots.items) c.in_ok-slot.slot c.slot_after-self-inside.result c.in_ok-event.event c.self.view_is
    (subst (λ (h : Host). IsFirst tells h.slots h.event_from c.in_ok-slot.slot) (sym c.self.view_is) c.in_ok-slot.ensures.first) c.in_ok-event.ensures.gives
    (c.slot_after-self-inside.ensures.after ∙ ap (λ (m : ℕ). slot_after m c.in_ok-slot.slot) (sym (length-shown inside.slots.items ∙ c.self.invariant.count)))

pub invariant_of-self-2 : goal.invariant_of-self-2
invariant_of-self-2 c =
    keeps-after c.self.inside.start.config.peers c.self.inside.start.clock c.self.inside.start.clock c.self.inside.start.config.generations c.self.inside.start.config.max_packet c.self.inside.start.config.max_waiting c.self.inside.service_from c.self.inside.event_from c.self.inside.service_from c.slot_after-self-inside.result c.self.inside.sleepers c.self.inside.sleepers
    c.self.inside.seats c.self.inside.seats c.self.inside.unproved c.self.inside.unproved c.self.inside.slots.items c.take_from.new.slots.items c.self.invariant
    c.take_from.ensures.count c.self.invariant.service c.slot_after-self-inside.ensures.within (
      gave-held (all_shown c.self.inside.slots.items) (all_shown c.take_from.new.slots.items) c.in_ok-slot.slot c.in_ok-event.event c.self.invariant.held c.in_ok-event.ensures.gives,
      keeps-gives-event c.self.inside.start.clock c.in_ok-slot.slot c.in_ok-event.event c.self.inside.sleepers (all_shown c.self.inside.slots.items) (all_shown c.take_from.new.slots.items)
          c.self.invariant.sleeping
          (teller-awake _ c.in_ok-slot.slot c.self.inside.event_from _ _ c.self.invariant.sleeping (subst (λ (h : Host). IsFirst tells h.slots h.event_from c.in_ok-slot.slot) (sym c.self.view_is) c.in_ok-slot.ensures.first))
          c.in_ok-event.ensures.gives,
    )
    (minded c.take_from.new.slots.items c.self.invariant c.take_from.ensures.count (gave-holds _ (minds-lasts _ _ _ _ _) (all_shown c.self.inside.slots.items) (all_shown c.take_from.new.slots.items) c.in_ok-slot.slot c.in_ok-event.event (all-minded c.self.invariant) c.in_ok-event.ensures.gives))
