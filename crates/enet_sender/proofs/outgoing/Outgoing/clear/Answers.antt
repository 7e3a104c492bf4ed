use Rattle.std.proofs.Common.{sym, ap, ◌∙◌}
use Rattle.slab.specs.Slab.{get}
use Rattle.enet_sender.specs.Pending.{times, named}
use Rattle.enet_sender.specs.Private.Rounds.{taken_at}
use Rattle.enet_sender.specs.Rings.{rings_of, commands_at}
use Rattle.enet_sender.proofs.Named.{times-append}
use Rattle.enet_sender.proofs.Rounds.{Leaves, leaves-keeps, leaves-passes, taken-both}
use Rattle.enet_sender.proofs.outgoing.Outgoing.clear.Goals.{After-take_all-2}
use Rattle.enet_sender.proofs.outgoing.Outgoing.clear.Goals as goal

leaves : (c : After-take_all-2) → Leaves (get c.args.pending.now.slab) (get c.take_all-2.new.pending.slab) (rings_of c.args.self.now)
leaves c =
    let at = get c.args.pending.now.slab in
    let o = c.args.self.now in
    record {
      keeps = c.requires;
      changed = λ key.
          c.take_all-2.ensures key ∙ ap (λ p. taken_at (times key o.sent.items) p) (c.take_all.ensures key)
          ∙ taken-both (times key o.sent.items) (times key o.queued.items) (at key)
          ∙ ap (λ n. taken_at n (at key)) (sym (times-append key o.queued.items o.sent.items));
    }

pub returns-clause-cleared : goal.returns-clause-cleared
returns-clause-cleared c =
    let after = get c.take_all-2.new.pending.slab in
    let queued = ap (commands_at after) c.clear.ensures.items in
    let sent = ap (named after) c.clear-2.ensures.items in
    λ i. record {
      channel = c.args.self.now.channel;
      sender = record { number = c.args.self.now.number; unreliable = c.args.self.now.unreliable; queued = queued i; sent = sent i };
    }

pub returns-clause-kept : goal.returns-clause-kept
returns-clause-kept c = rw (c.clear.ensures.items, c.clear-2.ensures.items) (leaves-keeps (leaves (goal.at.returns-clause-kept c).After-take_all-2))

pub returns-clause-passes : goal.returns-clause-passes
returns-clause-passes c = rw (c.clear.ensures.items, c.clear-2.ensures.items) (leaves-passes (leaves (goal.at.returns-clause-passes c).After-take_all-2))
