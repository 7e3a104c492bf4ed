use Rattle.std.proofs.Common.{drop, sym, ap}
use Rattle.slab.specs.Slab.{get}
use Rattle.enet_sender.specs.Sender.{begins_reliable}
use Rattle.enet_sender.specs.Rings.{rings_of}
use Rattle.enet_sender.proofs.Sending.{head-there, by_first, head-queued}
use Rattle.enet_sender.proofs.outgoing.Outgoing.begins_reliable.Goals as goal

pub unreachable-requires : goal.unreachable-requires
unreachable-requires c =
    let queued = c.args.self.now.queued.items in
    let found = head-there (get c.args.pending.now.slab) (rings_of c.args.self.now) c.in-Some.key (drop 1 queued) c.requires (by_first queued c.in-Some.key (sym c.in-Some.ensures)) in
    let none = c.in_default-get.ensures in
    let some = found.1 in
    cc

pub returns : goal.returns
returns c = sym (ap begins_reliable (head-queued (get c.args.pending.now.slab) c.args.self.now.queued.items c.in-Some.key c.in-Some-get.head.now (sym c.in-Some.ensures) (sym c.in-Some-get.ensures)))
