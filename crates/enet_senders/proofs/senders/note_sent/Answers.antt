use Rattle.std.proofs.Common.{◌<◌, length, sym, ap, ◌∙◌, arith}
use Rattle.enet_sender.specs.declared.outgoing.Left.{Left}
use Rattle.enet_sender.specs.Due.{SendingEnd}
use Rattle.enet_sender.specs.Rings.{end_of}
use Rattle.enet_senders.proofs.Sets.{end-is, sent-none}
use Rattle.enet_senders.proofs.senders.note_sent.Goals as goal

pub returns-else-left-clause-this : goal.returns-else-left-clause-this
returns-else-left-clause-this c = λ e lacks there.
    let s = c.args.pending.now.slab in
    let o = c.index-channels-from.result in
    let inside : c.from.result < length c.args.channels.now = omega (arith, c.from.ensures, c.requires.inside) in
    let is = end-is s c.args.channels.now c.args.channel c.from.result o e c.from.ensures inside (sym c.index-channels-from.is) there in
    ap (λ (x : SendingEnd). x.sender.sent) (sym is) ∙ sent-none (end_of s o).sender (ap (λ (l : Left). l.reliable) (sym c.left.ensures) ∙ c.if-left.false)
