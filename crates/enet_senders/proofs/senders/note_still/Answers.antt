use Rattle.std.proofs.Common.{inl, ◌≡◌, ◌<◌, All, false, length, sym, ap, subst, ◌∙◌, arith}
use Rattle.enet_sender.specs.declared.outgoing.Left.{Left}
use Rattle.enet_sender.specs.declared.sent.Sent.{Sent}
use Rattle.enet_sender.specs.Due.{SendingEnd}
use Rattle.enet_sender.specs.Rings.{end_of}
use Rattle.enet_senders.proofs.Sets.{end-is, not-true, queued-none}
use Rattle.enet_senders.proofs.senders.note_still.Goals as goal

pub returns-then-not-may_be_due-clause-this : goal.returns-then-not-may_be_due-clause-this
returns-then-not-may_be_due-clause-this c = λ e lacks there.
    let s = c.args.pending.now.slab in
    let o = c.index-channels-from.result in
    let inside : c.from.result < length c.args.channels.now = omega (arith, c.from.ensures, c.requires.inside) in
    let is = end-is s c.args.channels.now c.args.channel c.from.result o e c.from.ensures inside (sym c.index-channels-from.is) there in
    inl (record {
      queued = ap (λ (x : SendingEnd). x.sender.queued) (sym is) ∙ queued-none (end_of s o).sender (ap (λ (l : Left). l.packets) (sym c.left.ensures) ∙ not-true c.left.result.packets c.if-not-left.true);
      sent = subst (λ (x : SendingEnd). All (λ (p : Sent). p.transmission.due ≡ false) x.sender.sent) is (c.may_be_due.ensures c.if-not-may_be_due.true);
    })
