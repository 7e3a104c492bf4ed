use Rattle.std.proofs.Common.{◌≡◌, ◌<◌, ◌/◌, ◌%◌, Bool, ◌&&◌, not, eqb, ltb, length, ap, sym, subst, ◌∙◌, true, false}
use Rattle.enet_fragment.specs.Cutting.{piece_length}
use Rattle.enet_sender.specs.CommandChoice.{Packet}
use Rattle.enet_senders.proofs.Each.{where-ok}
use Rattle.enet_outbox.specs.contracts.outbox.Outbox.{the_view}
use Rattle.enet_outbox.specs.Outbox.{Outbox, Sending, is_unsequenced, submitted}
use Rattle.enet_outbox.proofs.Submitting.{there, submitted-on, one_piece, other_refusal}
use Rattle.enet_outbox.proofs.outbox.Outbox.submit.Goals as goal

pub returns-then-not-is_unsequenced-clause-submitted : goal.returns-then-not-is_unsequenced-clause-submitted
returns-then-not-is_unsequenced-clause-submitted c =
    let o : Outbox = (the_view c.self.inside).outbox in
    let q : Packet = record { flags = c.args.flags; body = c.args.body.now } in
    let inside : c.args.channel < length o.senders = subst (λ (v : Sending). c.args.channel < length v.outbox.senders) (sym c.self.view_is) c.requires.channel in
    let found = there o.senders c.args.channel inside in
    let plain : is_unsequenced c.args.mtu q ≡ false = rw (← c.len.ensures.value) (sym c.is_unsequenced.ensures ∙ c.if-not-is_unsequenced.true) in
    where-ok c.submit_on.result (λ queued. submitted-on o c.args.mtu c.args.channel q found.0 c.submit_on.new.senders plain found.1 queued
    ∙ ap (λ (v : Sending). submitted v.outbox c.args.mtu c.args.channel q) c.self.view_is) (c.submit_on.ensures.queued found.0 found.1)

pub returns-clause-too_large : goal.returns-clause-too_large
returns-clause-too_large c =
    let asks : Bool = eqb (c.args.flags / 2 % 2) 1 && not (eqb (c.args.flags % 2) 1) in
    let goes : (asks && not (ltb (piece_length c.args.mtu) (length c.args.body.now))) ≡ true =
    rw (← c.len.ensures.value) (sym c.is_unsequenced.ensures ∙ c.if-not-is_unsequenced.false) in (
      λ large. absurd (other_refusal c.submit_unsequenced.result c.submit_unsequenced.ensures.memory large),
      λ many. absurd (one_piece asks (length c.args.body.now) c.args.mtu c.requires.mtu.0 goes many),
    )
