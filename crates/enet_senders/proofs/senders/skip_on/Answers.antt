use Rattle.std.proofs.Common.{sym, arith}
use Rattle.enet_sender.specs.Sender.{with_skipped}
use Rattle.enet_sender.specs.Due.{SendingEnd}
use Rattle.enet_senders.proofs.Frames.{Framed, framed, framed-write, room-there}
use Rattle.enet_senders.proofs.senders.skip_on.Goals.{After-skip}
use Rattle.enet_senders.proofs.senders.skip_on.Goals as goal

frame : (c : After-skip) → Framed c.args.pending.now.slab c.skip.new.pending.slab c.args.channels.now.items c.from.result c.skip.new.self
frame c =
    framed c.args.pending.now.slab c.skip.new.pending.slab c.args.channels.now.items c.from.result c.index_mut.result.now c.skip.new.self
    (omega (arith, c.from.ensures, c.requires.inside)) (sym c.index_mut.ensures.value) c.requires.kept c.skip.ensures.kept c.skip.ensures.passes
    (c.skip.ensures.room (room-there _ c.args.channels.now.items c.from.result c.index_mut.result.now c.requires.kept (omega (arith, c.from.ensures, c.requires.inside)) (sym c.index_mut.ensures.value)))

pub returns-clause-ends : goal.returns-clause-ends
returns-clause-ends c = λ s there.
    framed-write (frame (goal.at.returns-clause-ends c).After-skip) (λ (e : SendingEnd). record e { sender = with_skipped e.sender }) c.index_mut.result.now
    (omega (arith, c.from.ensures, c.requires.inside)) (sym c.index_mut.ensures.value) c.skip.ensures.skipped c.args.channel c.from.ensures s there

pub returns-clause-kept : goal.returns-clause-kept
returns-clause-kept c = (frame (goal.at.returns-clause-kept c).After-skip).keeps
