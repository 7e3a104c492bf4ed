use Rattle.std.proofs.Common.{sym, ◌∙◌}
use Rattle.enet_slot.specs.Slotted.{all_shown}
use Rattle.enet_slot.proofs.Shown.{length-shown}
use Rattle.enet_host.proofs.Holding.{keeps-after, connects-held}
use Rattle.enet_host.proofs.Limits.{connects-limited, connects-noted}
use Rattle.enet_host.proofs.host.HostCore.connect.Goals as goal

pub invariant_of-self : goal.invariant_of-self
invariant_of-self c =
    keeps-after c.self.inside.start.config.peers c.self.inside.start.clock c.self.inside.start.clock c.self.inside.start.config.generations c.self.inside.start.config.max_packet c.self.inside.start.config.max_waiting c.self.inside.service_from c.self.inside.event_from c.self.inside.service_from c.self.inside.event_from c.self.inside.sleepers c.connect.new.sleepers
    c.self.inside.seats c.connect.new.seats c.self.inside.unproved c.self.inside.unproved c.self.inside.slots.items c.connect.new.slots.items c.self.invariant
    c.connect.ensures.count c.self.invariant.service c.self.invariant.event
    (connects-held _ (all_shown c.self.inside.slots.items) (all_shown c.connect.new.slots.items) _ _ c.self.invariant.held c.connect.ensures.connects, c.connect.ensures.sleepers) (
      connects-limited _ (all_shown c.self.inside.slots.items) (all_shown c.connect.new.slots.items) _ _ c.self.invariant.limited c.connect.ensures.connects,
      connects-noted _ _ c.self.inside.unproved _ (all_shown c.self.inside.slots.items) (all_shown c.connect.new.slots.items) _ _
          (length-shown c.connect.new.slots.items ∙ c.connect.ensures.count ∙ sym (length-shown c.self.inside.slots.items)) c.self.invariant.waiting c.connect.ensures.connects,
      c.connect.ensures.seats,
    )
