use Rattle.std.proofs.Common.{◌≡◌, ◌++◌, ◌∷◌, [], cond, drop, false, Some, IfSome, sym, ap, subst, ◌∙◌}
use Rattle.slab.specs.Slab.{get}
use Rattle.enet_sender.specs.declared.sent.Sent.{Sent}
use Rattle.enet_sender.specs.Sender.{begun}
use Rattle.enet_sender.specs.Pending.{named, Passes}
use Rattle.enet_sender.specs.Rings.{Keeps, rings_of, keys_of, commands_at}
use Rattle.enet_sender.proofs.Sending.{Heads, head-there, head-named, left_out, leave-keeps, leave-passes}
use Rattle.enet_sender.proofs.outgoing.Outgoing.leave.Goals.{After-take}
use Rattle.enet_sender.proofs.outgoing.Outgoing.leave.Goals as goal

heads : (c : After-take) (p : Sent) → get c.args.pending.now.slab c.args.key ≡ Some p → Heads (get c.args.pending.now.slab) (get c.take.new.self.slab) (rings_of c.args.self.now) c.args.key (drop 1 c.args.self.now.queued.items) p
heads c p there = record { keeps = c.requires.kept; queued = c.requires.head; there = there; others = c.take.ensures.updates.others }

head-is : (c : After-take) (p : Sent) → get c.args.pending.now.slab c.args.key ≡ Some p → p.command.reliable ≡ false
head-is c p there = subst (λ o. IfSome o (λ (p : Sent). p.command.reliable ≡ false)) there c.requires.unreliable

pub returns-clause-sends : goal.returns-clause-sends
returns-clause-sends c = λ now timeout p more there queued_is.
    let at = get c.args.pending.now.slab in
    let later = get c.take.new.self.slab in
    let rest = drop 1 c.args.self.now.queued.items in
    let q = begun now timeout p.command in
    let b = (goal.at.returns-clause-sends c).After-take in
    let names = head-named (heads b p there) in
    let more_is : commands_at at rest ≡ more = let e = sym names.0 ∙ queued_is in cc in
    let queued : commands_at later c.pop_front.new.self.items ≡ more = ap (commands_at later) c.pop_front.ensures.rest ∙ names.1 ∙ more_is in
    let sent : named later c.args.self.now.sent.items ≡ cond p.command.reliable (named at c.args.self.now.sent.items ++ q ∷ []) (named at c.args.self.now.sent.items) =
    names.2 ∙ ap (λ b. cond b (named at c.args.self.now.sent.items ++ q ∷ []) (named at c.args.self.now.sent.items)) (sym (head-is b p there)) in
    λ i. record {
      channel = c.args.self.now.channel;
      sender = record { number = c.args.self.now.number; unreliable = c.args.self.now.unreliable; queued = queued i; sent = sent i };
    }

pub returns-clause-kept : goal.returns-clause-kept
returns-clause-kept c =
    let later = get c.take.new.self.slab in
    let rest = drop 1 c.args.self.now.queued.items in
    let found = head-there (get c.args.pending.now.slab) (rings_of c.args.self.now) c.args.key rest c.requires.kept c.requires.head in
    let b = (goal.at.returns-clause-kept c).After-take in
    let keeps : Keeps later (left_out (rings_of c.args.self.now) rest) = leave-keeps (heads b found.0 found.1) c.take.ensures.updates.changed (head-is b found.0 found.1) in
    rw c.pop_front.ensures.rest keeps

pub returns-clause-passes : goal.returns-clause-passes
returns-clause-passes c =
    let at = get c.args.pending.now.slab in
    let later = get c.take.new.self.slab in
    let rest = drop 1 c.args.self.now.queued.items in
    let found = head-there at (rings_of c.args.self.now) c.args.key rest c.requires.kept c.requires.head in
    let b = (goal.at.returns-clause-passes c).After-take in
    let passes : Passes at later (keys_of (rings_of c.args.self.now)) (keys_of (left_out (rings_of c.args.self.now) rest)) = leave-passes (heads b found.0 found.1) c.take.ensures.updates.changed in
    rw c.pop_front.ensures.rest passes
