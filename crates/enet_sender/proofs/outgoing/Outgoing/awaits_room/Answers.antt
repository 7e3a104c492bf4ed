use Rattle.std.proofs.Common.{◌≢◌, ◌==◌, ◌<◌, length, sym, ap, ◌∙◌, arith}
use Rattle.std.proofs.lemmas.Bool.{eqb-false}
use Rattle.slab.specs.Slab.{get}
use Rattle.enet_sender.specs.Rings.{rings_of, commands_at}
use Rattle.enet_sender.proofs.Changing.{any_due-found}
use Rattle.enet_sender.proofs.Sending.{awaits-busy}
use Rattle.enet_sender.proofs.outgoing.Outgoing.awaits_room.Goals as goal

pub returns : goal.returns
returns c =
    let at = get c.args.pending.now.slab in
    let r = rings_of c.args.self.now in
    let apart : length r.sent ≢ 0 = eqb-false (length r.sent) 0 (sym (c.is_empty.ensures ∙ ap (λ n. n == 0) c.args.self.now.sent.ok.0) ∙ c.if-is_empty.false) in
    let some : 0 < length r.sent = omega arith in
    c.is_some.ensures ∙ sym (awaits-busy at r (commands_at at r.queued) c.requires some ∙ any_due-found at r.sent c.find_due.result c.find_due.ensures.some c.find_due.ensures.none)
