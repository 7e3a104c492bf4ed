use Rattle.std.proofs.Common.{◌≡◌, ◌∙◌, ◌==◌, ◌&&◌, false, not, drop, length, rules, sym, ap}
use Rattle.slab.specs.Slab.{get}
use Rattle.enet_seq.specs.Numbering.{wire}
use Rattle.enet_sender.specs.Sender.{next_of, wants_room_at}
use Rattle.enet_sender.specs.Rings.{rings_of, sender_of, commands_at}
use Rattle.enet_sender.proofs.Changing.{none_due-found}
use Rattle.enet_sender.proofs.NextLemmas.{next_queued-blocked, not-true}
use Rattle.enet_sender.proofs.Sending.{head-queued, head-number, head_lacks-is}
use Rattle.enet_sender.proofs.outgoing.Outgoing.head_has_to_wait.Goals as goal

pub returns : goal.returns
returns c = λ waits.
    let at = get c.args.pending.now.slab in
    let r = rings_of c.args.self.now in
    let p = c.in-Some-get.head.now in
    let is = head-queued at r.queued c.in-Some.key p (sym c.in-Some.ensures) (sym c.in-Some-get.ensures) in
    let stays = sym (c.may_go.ensures.value at c.requires.kept (head-number at r p.command (drop 1 (commands_at at r.queued)) c.requires.kept is)) ∙ not-true c.may_go.result waits in
    let blocked = next_queued-blocked c.args.occasion (sender_of at r) p.command is stays in
    let lacks = head_lacks-is at r c.args.occasion p.command (drop 1 (commands_at at r.queued)) c.requires.kept is stays in
    let busy : ((length r.sent == 0) && not c.args.occasion.barred) ≡ false = search rules in
    let found = none_due-found at r.sent c.requires.none in
    (ap (next_of wire c.args.occasion (sender_of at r)) found ∙ blocked, ap (wants_room_at c.args.occasion (sender_of at r)) found ∙ lacks ∙ busy)
