use Rattle.std.proofs.Common.{sym, subst, arith}
use Rattle.enet_outbox.specs.Outbox.{Outbox, Sending}
use Rattle.enet_outbox.specs.Emission.{filled}
use Rattle.enet_outbox.specs.Private.Packing.{Counts, Leads}
use Rattle.enet_outbox.specs.contracts.outbox.Outbox.{the_view}
use Rattle.enet_outbox.proofs.Emissions.{filled-leads, left_by}
use Rattle.enet_outbox.proofs.outbox.Outbox.pack.Goals.{After-pack_channels-sent}
use Rattle.enet_outbox.proofs.outbox.Outbox.pack.Goals as goal

abbrev left : After-pack_channels-sent → Outbox
left c =
    left_by (the_view c.self.inside).outbox c.pack_acknowledgements-acknowledged.new.acknowledgements.items c.pack_controls-controlled.new.control.commands c.pack_unsequenced-unsequenced.new.unsequenced
    c.pack_channels-sent.new.senders c.pack_channels-sent.new.flow

led : (c : After-pack_channels-sent) → Leads (filled c.args.pace (the_view c.self.inside).outbox) (left c) c.pack_channels-sent.result c.pack_channels-sent.new.buf × Counts (left c) c.pack_channels-sent.new.flow
led c =
    filled-leads c.args.pace (the_view c.self.inside).outbox c.first_channel-first.result c.self.inside.transit c.self.inside.prices c.limit.result
    c.args.buf.now
    (record { progress = c.pack_acknowledgements-acknowledged.result; buf = c.pack_acknowledgements-acknowledged.new.buf })
    (record { progress = c.pack_controls-controlled.result; buf = c.pack_controls-controlled.new.buf })
    (record { progress = c.pack_unsequenced-unsequenced.result; buf = c.pack_unsequenced-unsequenced.new.buf })
    (record { progress = c.pack_channels-sent.result; buf = c.pack_channels-sent.new.buf })
    c.pack_acknowledgements-acknowledged.new.acknowledgements.items c.pack_controls-controlled.new.control.commands c.pack_unsequenced-unsequenced.new.unsequenced
    c.pack_unsequenced-unsequenced.new.throttle c.pack_unsequenced-unsequenced.new.last c.pack_channels-sent.new.senders c.pack_channels-sent.new.flow
    c.requires.long c.requires.whole c.first_channel-first.ensures.value (sym c.self.invariant.0.counted) (sym c.self.invariant.0.priced) (sym c.limit.ensures)
    c.pack_acknowledgements-acknowledged.ensures.packs c.pack_controls-controlled.ensures.packs c.pack_unsequenced-unsequenced.ensures c.pack_channels-sent.ensures.packs

pub invariant_of-self : goal.invariant_of-self
invariant_of-self c =
    (record { few = omega (arith, c.pack_channels-sent.ensures.kept, c.self.invariant.0.few); counted = sym (led (goal.at.invariant_of-self c).After-pack_channels-sent).1.transit; priced = sym (led (goal.at.invariant_of-self c).After-pack_channels-sent).1.prices }, λ idle. absurd (cc), omega (arith, c.pack_acknowledgements-acknowledged.ensures.fewer, c.self.invariant.2))

pub returns-clause-leads : goal.returns-clause-leads
returns-clause-leads c =
    let at = (goal.at.returns-clause-leads c).After-pack_channels-sent in
    let P : Sending → Type 0 = λ s. Leads (filled c.args.pace s.outbox) (left at) c.pack_channels-sent.result c.pack_channels-sent.new.buf in
    subst P c.self.view_is (led at).0
