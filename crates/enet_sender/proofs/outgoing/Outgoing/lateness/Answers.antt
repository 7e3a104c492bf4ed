use Rattle.std.proofs.Common.{true, false, sym, ◌∙◌}
use Rattle.slab.specs.Slab.{get}
use Rattle.enet_sender.specs.Rings.{rings_of, sender_of}
use Rattle.enet_sender.proofs.Rounds.{no-end, lateness-by}
use Rattle.enet_sender.proofs.outgoing.Outgoing.lateness.Goals as goal

pub returns-then-not-is_late : goal.returns-then-not-is_late
returns-then-not-is_late c =
    let s = sender_of (get c.args.pending.now.slab) (rings_of c.args.self.now) in
    let none = sym c.is_late.ensures ∙ c.if-not-is_late.true in
    lateness-by c.args.now c.args.patience.now c.args.heard s false false (no-end c.args.now c.args.patience.now c.args.heard s.sent none) none

pub returns-then-ends : goal.returns-then-ends
returns-then-ends c =
    let s = sender_of (get c.args.pending.now.slab) (rings_of c.args.self.now) in
    lateness-by c.args.now c.args.patience.now c.args.heard s true true (sym c.ends.ensures ∙ c.if-ends.true) (sym c.is_late.ensures ∙ c.if-not-is_late.false)

pub returns-else-ends : goal.returns-else-ends
returns-else-ends c =
    let s = sender_of (get c.args.pending.now.slab) (rings_of c.args.self.now) in
    lateness-by c.args.now c.args.patience.now c.args.heard s false true (sym c.ends.ensures ∙ c.if-ends.false) (sym c.is_late.ensures ∙ c.if-not-is_late.false)
