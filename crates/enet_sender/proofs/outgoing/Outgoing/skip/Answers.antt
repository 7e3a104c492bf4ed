use Rattle.std.proofs.Common.{◌≡◌, ◌++◌, ◌∷◌, [], cond, drop, true, IfSome, sym, ap, subst, ◌∙◌}
use Rattle.slab.specs.Slab.{get}
use Rattle.enet_sender.specs.declared.sent.Sent.{Sent}
use Rattle.enet_sender.specs.Sender.{skipped, is_more, begun}
use Rattle.enet_sender.specs.Due.{SendingEnd}
use Rattle.enet_sender.specs.Pending.{named}
use Rattle.enet_sender.specs.Rings.{rings_of, keys_of, commands_at}
use Rattle.enet_sender.proofs.Sending.{head-there, by_first, head-queued}
use Rattle.enet_sender.proofs.Skipping.{more-unreliable, skipped-more}
use Rattle.enet_sender.proofs.Submitting.{passes-then}
use Rattle.enet_sender.proofs.outgoing.Outgoing.skip.Goals as goal

pub further-preserved : goal.further-preserved
further-preserved c =
    let s = c.further.pending.slab in
    let at = get s in
    let queued = c.further.self.queued.items in
    let key = c.in-Some.key in
    let found = head-there at (rings_of c.further.self) key (drop 1 queued) c.further.invariant.kept (by_first queued key c.in-Some.ensures.head) in
    let p = found.0 in
    let is = head-queued at queued key p c.in-Some.ensures.head found.1 in
    let more : is_more p.command ≡ true = subst (λ o. IfSome o (λ (p : Sent). is_more p.command ≡ true)) found.1 c.in-Some.ensures.more in
    let ends = c.leave.ensures.sends 0 0 p (drop 1 (commands_at at queued)) found.1 is in
    record {
      kept = c.leave.ensures.kept;
      passes = passes-then (get c.args.pending.now.slab) at (get c.leave.new.pending.slab) (keys_of (rings_of c.args.self.now)) (keys_of (rings_of c.further.self)) (keys_of (rings_of c.leave.new.self)) c.further.invariant.passes c.leave.ensures.passes;
      channel = ap (λ (e : SendingEnd). e.channel) ends ∙ c.further.invariant.channel;
      number = ap (λ (e : SendingEnd). e.sender.number) ends ∙ c.further.invariant.number;
      unreliable = ap (λ (e : SendingEnd). e.sender.unreliable) ends ∙ c.further.invariant.unreliable;
      queued = ap skipped (ap (λ (e : SendingEnd). e.sender.queued) ends) ∙ sym (skipped-more (commands_at at queued) (drop 1 (commands_at at queued)) p.command is more) ∙ c.further.invariant.queued;
      sent = ap (λ (e : SendingEnd). e.sender.sent) ends
          ∙ ap (λ b. cond b (named at c.further.self.sent.items ++ begun 0 0 p.command ∷ []) (named at c.further.self.sent.items)) (more-unreliable p.command more) ∙ c.further.invariant.sent;
      room = λ was. c.leave.ensures.room (c.further.invariant.room was);
    }
