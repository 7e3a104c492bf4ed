use Rattle.std.proofs.Common.{sym, arith}
use Rattle.enet_sender.specs.Due.{SendingEnd}
use Rattle.enet_sender.specs.Sender.{after_match}
use Rattle.enet_senders.proofs.Frames.{Framed, framed, framed-write, room-there}
use Rattle.enet_senders.proofs.senders.acknowledge_on.Goals.{After-acknowledge}
use Rattle.enet_senders.proofs.senders.acknowledge_on.Goals as goal

frame : (c : After-acknowledge) → Framed c.args.pending.now.slab c.acknowledge.new.pending.slab c.args.channels.now.items c.from.result c.acknowledge.new.self
frame c =
    framed c.args.pending.now.slab c.acknowledge.new.pending.slab c.args.channels.now.items c.from.result c.index_mut.result.now c.acknowledge.new.self
    (omega (arith, c.from.ensures, c.requires.inside)) (sym c.index_mut.ensures.value) c.requires.kept c.acknowledge.ensures.kept c.acknowledge.ensures.passes
    (c.acknowledge.ensures.room (room-there _ c.args.channels.now.items c.from.result c.index_mut.result.now c.requires.kept (omega (arith, c.from.ensures, c.requires.inside)) (sym c.index_mut.ensures.value)))

pub returns-clause-ends : goal.returns-clause-ends
returns-clause-ends c = λ s there.
    framed-write (frame (goal.at.returns-clause-ends c).After-acknowledge) (λ (e : SendingEnd). record e { sender = after_match e.sender c.args.number c.acknowledge.result }) c.index_mut.result.now
    (omega (arith, c.from.ensures, c.requires.inside)) (sym c.index_mut.ensures.value) c.acknowledge.ensures.removed c.args.channel c.from.ensures s there

pub returns-clause-kept : goal.returns-clause-kept
returns-clause-kept c = (frame (goal.at.returns-clause-kept c).After-acknowledge).keeps
