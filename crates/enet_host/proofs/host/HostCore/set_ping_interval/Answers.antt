use Rattle.enet_slot.specs.Calls.{pinging}
use Rattle.enet_slot.specs.Slotted.{all_shown}
use Rattle.enet_host.proofs.Sleeping.{woken-awake}
use Rattle.enet_host.proofs.Holding.{all-minded, minded, keeps-after, woken-kept, does-kept}
use Rattle.enet_host.proofs.Limits.{minds-lasts, does-holds, pinging-keeps}
use Rattle.enet_host.proofs.host.HostCore.set_ping_interval.Goals as goal

pub invariant_of-self : goal.invariant_of-self
invariant_of-self c =
    keeps-after c.self.inside.start.config.peers c.self.inside.start.clock c.self.inside.start.clock c.self.inside.start.config.generations c.self.inside.start.config.max_packet c.self.inside.start.config.max_waiting c.self.inside.service_from c.self.inside.event_from c.self.inside.service_from c.self.inside.event_from c.self.inside.sleepers c.wake.new.self
    c.self.inside.seats c.self.inside.seats c.self.inside.unproved c.self.inside.unproved c.self.inside.slots.items c.set.new.slots.items c.self.invariant
    c.set.ensures.count c.self.invariant.service c.self.invariant.event
    (does-kept c.self.inside.start.clock c.wake.new.self (all_shown c.self.inside.slots.items) (all_shown c.set.new.slots.items) c.args.peer (pinging c.args.ms) c.set.result
    (woken-kept c.self.inside.start.config.peers c.self.inside.start.clock c.self.inside.start.config.generations c.self.inside.start.config.max_packet c.self.inside.start.config.max_waiting c.self.inside.service_from c.self.inside.event_from c.self.inside.sleepers c.wake.new.self c.self.inside.seats c.self.inside.unproved c.self.inside.slots.items c.self.invariant c.wake.ensures.kept) (woken-awake c.self.inside.start.clock c.args.peer.slot c.from.result c.self.inside.sleepers c.wake.new.self (all_shown c.self.inside.slots.items) c.from.ensures c.self.invariant.sleeping c.wake.ensures.awake) c.set.ensures.does)
    (minded c.set.new.slots.items c.self.invariant c.set.ensures.count (does-holds _ (minds-lasts _ _ _ _ _) (all_shown c.self.inside.slots.items) (all_shown c.set.new.slots.items) c.args.peer (pinging c.args.ms) c.set.result (all-minded c.self.invariant) (pinging-keeps c.args.ms) c.set.ensures.does))
