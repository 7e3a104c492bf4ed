use Rattle.std.proofs.Common.{ap, subst}
use Rattle.enet_host.specs.declared.totals.Totals.{Totals}
use Rattle.enet_host.specs.Host.{Host}
use Rattle.enet_host.specs.Receiving.{Receives}
use Rattle.enet_slot.specs.Slotted.{all_shown}
use Rattle.enet_host.proofs.Holding.{keeps-after, arrives-held}
use Rattle.enet_host.proofs.AddressLimits.{arrives-few}
use Rattle.enet_host.proofs.Limits.{arrives-limited}
use Rattle.enet_host.proofs.host.HostCore.receive.Goals as goal

pub returns : goal.returns
returns c =
    let inside = c.self.inside in
    let old : Host = record { config = inside.start.config; clock = inside.start.clock; shared_at = inside.shared_at; service_from = inside.service_from; event_from = inside.event_from; totals = inside.totals; slots = all_shown inside.slots.items; credits = inside.credits.items; send_limit = inside.send_limit } in
    let new : Host = record old { totals = c.with_datagram_in-self-inside.result; slots = all_shown c.receive.new.slots.items; credits = c.receive.new.credits.items } in
    let received : Receives old c.args.from c.args.bytes.now c.receive.result new = record {
      arrives = c.receive.ensures.arrives;
      credits = c.receive.ensures.credits;
      rest = ap (λ (t : Totals). record new { totals = t }) c.with_datagram_in-self-inside.ensures;
      few = arrives-few _ c.args.from c.args.bytes.now c.receive.result (all_shown c.receive.new.slots.items) c.receive.ensures.arrives;
    } in
    subst (λ (h : Host). Receives h c.args.from c.args.bytes.now c.receive.result new) c.self.view_is received

pub invariant_of-self : goal.invariant_of-self
invariant_of-self c =
    keeps-after c.self.inside.start.config.peers c.self.inside.start.clock c.self.inside.start.clock c.self.inside.start.config.generations c.self.inside.start.config.max_packet c.self.inside.start.config.max_waiting c.self.inside.service_from c.self.inside.event_from c.self.inside.service_from c.self.inside.event_from c.self.inside.sleepers c.receive.new.sleepers
    c.self.inside.seats c.receive.new.seats c.self.inside.unproved c.receive.new.unproved c.self.inside.slots.items c.receive.new.slots.items c.self.invariant
    c.receive.ensures.count c.self.invariant.service c.self.invariant.event
    (arrives-held _ (all_shown c.self.inside.slots.items) (all_shown c.receive.new.slots.items) _ _ _ c.self.invariant.held c.receive.ensures.arrives, c.receive.ensures.sleepers) (
      arrives-limited _ (all_shown c.self.inside.slots.items) (all_shown c.receive.new.slots.items) _ _ _ c.self.invariant.limited c.receive.ensures.arrives,
      c.receive.ensures.unproved,
      c.receive.ensures.seats,
    )
