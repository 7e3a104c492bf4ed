use Rattle.std.proofs.Common.{◌≡◌, ℕ, Option, sym, ap, subst, ◌∙◌}
use Rattle.enet_senders.specs.declared.control.Control.{Control}
use Rattle.enet_outbox.specs.Outbox.{Sending, as_control, is_answer, matched_by}
use Rattle.enet_outbox.specs.contracts.outbox.Outbox.{the_view}
use Rattle.enet_outbox.proofs.Answering.{not-data}
use Rattle.enet_outbox.proofs.outbox.Outbox.is_answer.Goals as goal

pub returns-then-channel-ne-CONTROL_CHANNEL : goal.returns-then-channel-ne-CONTROL_CHANNEL
returns-then-channel-ne-CONTROL_CHANNEL c = not-data c.args.self.now.outbox c.args.channel c.args.number c.args.time c.if-channel-ne-CONTROL_CHANNEL.true

pub returns : goal.returns
returns c =
    let view = the_view c.self.inside in
    subst (λ (x : Sending). c.is_verify_connect.result ≡ is_answer (matched_by x.outbox c.args.channel c.args.number c.args.time)) c.self.view_is
    (c.is_verify_connect.ensures ∙ ap (λ (o : Option Control). is_answer (as_control o)) c.matching.ensures
    ∙ ap (λ (n : ℕ). is_answer (matched_by view.outbox n c.args.number c.args.time)) (sym c.if-channel-ne-CONTROL_CHANNEL.false))
