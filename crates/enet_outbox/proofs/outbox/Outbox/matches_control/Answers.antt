use Rattle.std.proofs.Common.{◌≡◌, ℕ, Option, sym, ap, subst, ◌∙◌}
use Rattle.enet_senders.specs.declared.control.Control.{Control}
use Rattle.enet_outbox.specs.Outbox.{Sending, as_control, is_control, matched_by}
use Rattle.enet_outbox.specs.contracts.outbox.Outbox.{the_view}
use Rattle.enet_outbox.proofs.Answering.{not-control, some-control}
use Rattle.enet_outbox.proofs.outbox.Outbox.matches_control.Goals as goal

pub returns-then-channel-ne-CONTROL_CHANNEL : goal.returns-then-channel-ne-CONTROL_CHANNEL
returns-then-channel-ne-CONTROL_CHANNEL c = not-control c.args.self.now.outbox c.args.channel c.args.number c.args.time c.if-channel-ne-CONTROL_CHANNEL.true

pub returns : goal.returns
returns c =
    let view = the_view c.self.inside in
    subst (λ (x : Sending). c.is_some.result ≡ is_control (matched_by x.outbox c.args.channel c.args.number c.args.time)) c.self.view_is
    (c.is_some.ensures ∙ some-control c.matching.result ∙ ap (λ (o : Option Control). is_control (as_control o)) c.matching.ensures
    ∙ ap (λ (n : ℕ). is_control (matched_by view.outbox n c.args.number c.args.time)) (sym c.if-channel-ne-CONTROL_CHANNEL.false))
