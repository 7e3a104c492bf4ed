use Rattle.std.proofs.Common.{sym, subst, List}
use Rattle.enet_slot.specs.Slot.{SlotState}
use Rattle.enet_slot.specs.Slotted.{all_shown}
use Rattle.enet_sleepers.specs.Sleeping.{KeepsSleepers}
use Rattle.enet_host.proofs.Bringing.{keeps-changed}
use Rattle.enet_host.proofs.Holding.{all-minded, minded, keeps-after, changed-after}
use Rattle.enet_host.proofs.Limits.{minds-lasts, told-after}
use Rattle.enet_host.proofs.host.HostCore.set_bandwidth.Goals as goal

pub invariant_of-self-2 : goal.invariant_of-self-2
invariant_of-self-2 c =
    let old = all_shown c.self.inside.slots.items in
    let new = all_shown c.set_bandwidth.new.slots.items in
    let clock = c.self.inside.start.clock in
    keeps-after c.self.inside.start.config.peers clock clock c.self.inside.start.config.generations c.self.inside.start.config.max_packet c.self.inside.start.config.max_waiting c.self.inside.service_from c.self.inside.event_from c.self.inside.service_from c.self.inside.event_from
    c.self.inside.sleepers c.wake_held.new.self c.self.inside.seats c.self.inside.seats c.self.inside.unproved c.self.inside.unproved c.self.inside.slots.items c.set_bandwidth.new.slots.items c.self.invariant c.set_bandwidth.ensures.count c.self.invariant.service c.self.invariant.event (
      changed-after _ old new c.in_ok-set_bandwidth.ensures.set c.self.invariant.held,
      subst (λ (slots : List SlotState). KeepsSleepers clock c.wake_held.new.self slots) (sym c.in_ok-set_bandwidth.ensures.set)
          (keeps-changed clock c.wake_held.new.self _ old c.wake_held.ensures.free (c.wake_held.ensures.kept clock old c.self.invariant.sleeping)),
    )
    (minded c.set_bandwidth.new.slots.items c.self.invariant c.set_bandwidth.ensures.count (told-after _ (minds-lasts _ _ _ _ _) _ _ old new c.in_ok-set_bandwidth.ensures.set (all-minded c.self.invariant)))
