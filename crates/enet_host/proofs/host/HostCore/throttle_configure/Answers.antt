use Rattle.enet_slot.specs.Calls.{throttling}
use Rattle.enet_slot.specs.Slotted.{all_shown}
use Rattle.enet_host.proofs.Sleeping.{woken-awake}
use Rattle.enet_host.proofs.Holding.{all-minded, minded, keeps-after, woken-kept, does-with-memory-kept}
use Rattle.enet_host.proofs.Limits.{minds-lasts, does-with-memory-holds, throttling-keeps}
use Rattle.enet_host.proofs.host.HostCore.throttle_configure.Goals as goal

pub invariant_of-self : goal.invariant_of-self
invariant_of-self c =
    keeps-after c.self.inside.start.config.peers c.self.inside.start.clock c.self.inside.start.clock c.self.inside.start.config.generations c.self.inside.start.config.max_packet c.self.inside.start.config.max_waiting c.self.inside.service_from c.self.inside.event_from c.self.inside.service_from c.self.inside.event_from c.self.inside.sleepers c.wake.new.self
    c.self.inside.seats c.self.inside.seats c.self.inside.unproved c.self.inside.unproved c.self.inside.slots.items c.throttle_configure.new.slots.items c.self.invariant
    c.throttle_configure.ensures.count c.self.invariant.service c.self.invariant.event
    (does-with-memory-kept c.self.inside.start.clock c.wake.new.self (all_shown c.self.inside.slots.items) (all_shown c.throttle_configure.new.slots.items) c.args.peer (throttling c.args.interval c.args.acceleration c.args.deceleration) c.throttle_configure.result
    (woken-kept c.self.inside.start.config.peers c.self.inside.start.clock c.self.inside.start.config.generations c.self.inside.start.config.max_packet c.self.inside.start.config.max_waiting c.self.inside.service_from c.self.inside.event_from c.self.inside.sleepers c.wake.new.self c.self.inside.seats c.self.inside.unproved c.self.inside.slots.items c.self.invariant c.wake.ensures.kept) (woken-awake c.self.inside.start.clock c.args.peer.slot c.from.result c.self.inside.sleepers c.wake.new.self (all_shown c.self.inside.slots.items) c.from.ensures c.self.invariant.sleeping c.wake.ensures.awake) c.throttle_configure.ensures.does)
    (minded c.throttle_configure.new.slots.items c.self.invariant c.throttle_configure.ensures.count (does-with-memory-holds _ (minds-lasts _ _ _ _ _) (all_shown c.self.inside.slots.items) (all_shown c.throttle_configure.new.slots.items) c.args.peer (throttling c.args.interval c.args.acceleration c.args.deceleration) c.throttle_configure.result (all-minded c.self.invariant) (throttling-keeps c.args.interval c.args.acceleration c.args.deceleration) c.throttle_configure.ensures.does))
