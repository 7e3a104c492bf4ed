use Rattle.std.proofs.Common.{subst}
use Rattle.enet_codec.specs.declared.event.DisconnectMode.TheVariants as mode
use Rattle.enet_slot.specs.Calls.{leaving, Does}
use Rattle.enet_slot.specs.Slotted.{all_shown}
use Rattle.enet_host.specs.Calls.{on_named}
use Rattle.enet_host.specs.Host.{Host}
use Rattle.enet_host.proofs.Sleeping.{woken-awake}
use Rattle.enet_host.proofs.Holding.{all-minded, minded, keeps-after, woken-kept, does-kept}
use Rattle.enet_host.proofs.Limits.{minds-lasts, does-holds, leaving-keeps}
use Rattle.enet_host.proofs.host.HostCore.disconnect_now.Goals as goal

pub invariant_of-self : goal.invariant_of-self
invariant_of-self c =
    keeps-after c.self.inside.start.config.peers c.self.inside.start.clock c.self.inside.start.clock c.self.inside.start.config.generations c.self.inside.start.config.max_packet c.self.inside.start.config.max_waiting c.self.inside.service_from c.self.inside.event_from c.self.inside.service_from c.self.inside.event_from c.self.inside.sleepers c.wake.new.self
    c.self.inside.seats c.self.inside.seats c.self.inside.unproved c.self.inside.unproved c.self.inside.slots.items c.disconnect.new.slots.items c.self.invariant
    c.disconnect.ensures.count c.self.invariant.service c.self.invariant.event
    (does-kept c.self.inside.start.clock c.wake.new.self (all_shown c.self.inside.slots.items) (all_shown c.disconnect.new.slots.items) c.args.peer (leaving mode.Now c.args.info) c.disconnect.result
    (woken-kept c.self.inside.start.config.peers c.self.inside.start.clock c.self.inside.start.config.generations c.self.inside.start.config.max_packet c.self.inside.start.config.max_waiting c.self.inside.service_from c.self.inside.event_from c.self.inside.sleepers c.wake.new.self c.self.inside.seats c.self.inside.unproved c.self.inside.slots.items c.self.invariant c.wake.ensures.kept) (woken-awake c.self.inside.start.clock c.args.peer.slot c.from.result c.self.inside.sleepers c.wake.new.self (all_shown c.self.inside.slots.items) c.from.ensures c.self.invariant.sleeping c.wake.ensures.awake) c.disconnect.ensures.does)
    (minded c.disconnect.new.slots.items c.self.invariant c.disconnect.ensures.count (does-holds _ (minds-lasts _ _ _ _ _) (all_shown c.self.inside.slots.items) (all_shown c.disconnect.new.slots.items) c.args.peer (leaving mode.Now c.args.info) c.disconnect.result (all-minded c.self.invariant) (leaving-keeps mode.Now c.args.info) c.disconnect.ensures.does))

pub returns-clause-disconnects : goal.returns-clause-disconnects
returns-clause-disconnects c =
    subst (λ (h : Host). Does c.disconnect.result (on_named h.slots c.args.peer (leaving mode.Now c.args.info)) h.slots (all_shown c.disconnect.new.slots.items)) c.self.view_is
    c.disconnect.ensures.does
