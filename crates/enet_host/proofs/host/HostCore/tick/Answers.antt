use Rattle.std.proofs.Common.{List, refl, sym, subst}
use Rattle.enet_slot.specs.declared.slot.Slot.{Slot}
use Rattle.enet_slot.specs.Slotted.{all_shown}
use Rattle.enet_sleepers.specs.Unproved.{KeepsUnproved}
use Rattle.enet_host.specs.Private.Ticking.{all_ticked}
use Rattle.enet_host.proofs.Holding.{all-minded, minded, keeps-after, moved-after, shared-if-held}
use Rattle.enet_host.proofs.Limits.{minds-lasts, shared-if-holds, holds-after}
use Rattle.enet_host.proofs.host.HostCore.tick.Goals as goal

pub advance-requires : goal.advance-requires
advance-requires c =
    let inside = c.self.inside in
    let old = all_shown inside.slots.items in
    let passed = c.pass_time-self-inside in
    let timed = all_ticked c.clock_after-self-inside.result c.deref.result.now old in
    let of_peers = minded passed.new.slots.items c.self.invariant passed.ensures.count
    (shared-if-holds _ (minds-lasts _ _ _ _ _) _ inside.start.config.outgoing timed (all_shown passed.new.slots.items) passed.ensures.slots
    (holds-after _ (minds-lasts _ _ _ _ _) _ _ old timed refl (all-minded c.self.invariant))) in (
      inside.start.clock,
      inside.start.config.generations,
      subst (λ (xs : List Slot). KeepsUnproved inside.start.clock inside.start.config.generations inside.unproved (all_shown xs)) (sym c.deref-2.ensures.value) of_peers.1,
    )

pub invariant_of-self : goal.invariant_of-self
invariant_of-self c =
    let inside = c.self.inside in
    let old = all_shown inside.slots.items in
    let passed = c.pass_time-self-inside in
    let clock = c.clock_after-self-inside.result in
    let config = inside.start.config in
    let timed = all_ticked clock c.deref.result.now old in
    let of_peers = minded passed.new.slots.items c.self.invariant passed.ensures.count
    (shared-if-holds _ (minds-lasts _ _ _ _ _) _ config.outgoing timed (all_shown passed.new.slots.items) passed.ensures.slots
    (holds-after _ (minds-lasts _ _ _ _ _) _ _ old timed refl (all-minded c.self.invariant))) in
    let waiting = subst (λ (xs : List Slot). KeepsUnproved inside.start.clock config.generations inside.unproved (all_shown xs)) (sym c.deref-2.ensures.value) of_peers.1 in
    keeps-after config.peers inside.start.clock clock config.generations config.max_packet config.max_waiting inside.service_from inside.event_from inside.service_from inside.event_from
    inside.sleepers passed.new.sleepers inside.seats inside.seats inside.unproved c.advance.new.self inside.slots.items passed.new.slots.items c.self.invariant passed.ensures.count c.self.invariant.service c.self.invariant.event
    (shared-if-held _ config.outgoing timed (all_shown passed.new.slots.items) passed.ensures.slots (moved-after _ _ old timed refl c.self.invariant.held), passed.ensures.sleepers)
    (of_peers.0, subst (λ (xs : List Slot). KeepsUnproved clock config.generations c.advance.new.self (all_shown xs)) c.deref-2.ensures.value (c.advance.ensures inside.start.clock config.generations waiting), of_peers.2)
