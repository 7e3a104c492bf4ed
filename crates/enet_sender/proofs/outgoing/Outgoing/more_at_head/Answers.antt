use Rattle.std.proofs.Common.{drop, sym, ◌∙◌}
use Rattle.slab.specs.Slab.{get}
use Rattle.enet_sender.specs.Rings.{rings_of, commands_at}
use Rattle.enet_sender.proofs.Sending.{head-there, by_first, head-queued}
use Rattle.enet_sender.proofs.Skipping.{skipped-none}
use Rattle.enet_sender.proofs.outgoing.Outgoing.more_at_head.Goals as goal

pub unreachable-requires : goal.unreachable-requires
unreachable-requires c =
    let queued = c.args.self.now.queued.items in
    let found = head-there (get c.args.pending.now.slab) (rings_of c.args.self.now) c.in_ok-key.key (drop 1 queued) c.requires (by_first queued c.in_ok-key.key (sym c.in_ok-key.ensures)) in
    let none = c.in_default.ensures in
    let some = found.1 in
    cc

pub returns-else-is_more-clause-none : goal.returns-else-is_more-clause-none
returns-else-is_more-clause-none c =
    let at = get c.args.pending.now.slab in
    let queued = c.args.self.now.queued.items in
    let p = c.in-Some.head.now in
    skipped-none (commands_at at queued) (drop 1 (commands_at at queued)) p.command (head-queued at queued c.in_ok-key.key p (sym c.in_ok-key.ensures) (sym c.in-Some.ensures)) (sym c.is_more.ensures ∙ c.if-is_more.false)
