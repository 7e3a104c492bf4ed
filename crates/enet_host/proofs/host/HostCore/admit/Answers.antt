use Rattle.std.proofs.Common.{◌≡◌, true, sym, ap, subst, ◌∙◌}
use Rattle.enet_codec.specs.Config.{is_admissible}
use Rattle.enet_codec.specs.declared.config.Config.{Config}
use Rattle.enet_host.specs.Calls.{with_admission}
use Rattle.enet_host.specs.Host.{Host}
use Rattle.enet_host.specs.Shown.{KeepsHost}
use Rattle.enet_host.specs.contracts.host.HostCore.{the_view}
use Rattle.enet_host.proofs.Holding.{keeps-admitting}
use Rattle.enet_host.proofs.host.HostCore.admit.Goals as goal

pub invariant_of-self : goal.invariant_of-self
invariant_of-self c =
    let inside = c.self.inside in
    subst (λ (g : Config). KeepsHost (record { peers = g.peers; clock = inside.start.clock; generations = g.generations; max_packet = g.max_packet; max_waiting = g.max_waiting; service_from = inside.service_from; event_from = inside.event_from })
    inside.sleepers inside.seats inside.unproved inside.slots.items) (sym c.admitting-self-inside.ensures)
    (keeps-admitting inside.start.config c.args.admission inside.start.clock inside.service_from inside.event_from inside.sleepers inside.seats inside.unproved inside.slots.items c.self.invariant)

pub returns : goal.returns
returns c =
    let inside = c.self.inside in (
      subst (λ (h : Host). is_admissible h.config c.args.admission ≡ true) c.self.view_is (sym c.is_admissible.ensures ∙ c.if-not-is_admissible.false),
      subst (λ (h : Host). record (the_view inside) { config = c.admitting-self-inside.result } ≡ with_admission h c.args.admission) c.self.view_is (ap (λ (g : Config). record (the_view inside) { config = g }) c.admitting-self-inside.ensures),
    )
