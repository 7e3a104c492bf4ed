use Rattle.enet_sender.specs.CommandChoice.{Packet}
use Rattle.enet_peer.specs.Calls.{handed_back}
use Rattle.enet_slot.specs.Calls.{submission, unless_full}
use Rattle.enet_slot.specs.Slotted.{all_shown}
use Rattle.enet_host.proofs.Sleeping.{woken-awake}
use Rattle.enet_host.proofs.Holding.{all-minded, minded, keeps-after, woken-kept, submits-kept}
use Rattle.enet_host.proofs.Limits.{minds-lasts, submits-holds, submission-keeps, unless_full-keeps}
use Rattle.enet_host.proofs.host.HostCore.submit.Goals as goal

pub invariant_of-self : goal.invariant_of-self
invariant_of-self c =
    let q : Packet = record { flags = c.args.flags; body = c.args.body } in
    keeps-after c.self.inside.start.config.peers c.self.inside.start.clock c.self.inside.start.clock c.self.inside.start.config.generations c.self.inside.start.config.max_packet c.self.inside.start.config.max_waiting c.self.inside.service_from c.self.inside.event_from c.self.inside.service_from c.self.inside.event_from c.self.inside.sleepers c.wake.new.self
    c.self.inside.seats c.self.inside.seats c.self.inside.unproved c.self.inside.unproved c.self.inside.slots.items c.submit.new.slots.items c.self.invariant
    c.submit.ensures.count c.self.invariant.service c.self.invariant.event
    (submits-kept c.self.inside.start.clock c.wake.new.self (all_shown c.self.inside.slots.items) (all_shown c.submit.new.slots.items) c.args.peer q (unless_full c.self.inside.send_limit (submission c.args.channel q)) (handed_back c.submit.result c.submit.new.body)
    (woken-kept c.self.inside.start.config.peers c.self.inside.start.clock c.self.inside.start.config.generations c.self.inside.start.config.max_packet c.self.inside.start.config.max_waiting c.self.inside.service_from c.self.inside.event_from c.self.inside.sleepers c.wake.new.self c.self.inside.seats c.self.inside.unproved c.self.inside.slots.items c.self.invariant c.wake.ensures.kept) (woken-awake c.self.inside.start.clock c.args.peer.slot c.from.result c.self.inside.sleepers c.wake.new.self (all_shown c.self.inside.slots.items) c.from.ensures c.self.invariant.sleeping c.wake.ensures.awake) c.submit.ensures.does)
    (minded c.submit.new.slots.items c.self.invariant c.submit.ensures.count (submits-holds _ (minds-lasts _ _ _ _ _) (all_shown c.self.inside.slots.items) (all_shown c.submit.new.slots.items) c.args.peer q (unless_full c.self.inside.send_limit (submission c.args.channel q)) (handed_back c.submit.result c.submit.new.body) (all-minded c.self.invariant) (unless_full-keeps c.self.inside.send_limit (submission c.args.channel q) (submission-keeps c.args.channel q)) c.submit.ensures.does))
