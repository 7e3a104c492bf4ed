use Rattle.std.proofs.Common.{refl, sym}
use Rattle.enet_senders.specs.Senders.{cleared_end}
use Rattle.enet_senders.proofs.Frames.{Framed, framed, framed-write}
use Rattle.enet_senders.proofs.senders.clear_on.Goals.{After-clear}
use Rattle.enet_senders.proofs.senders.clear_on.Goals as goal

frame : (c : After-clear) → Framed c.args.pending.now.slab c.clear.new.pending.slab c.args.channels.now.items c.args.channel c.clear.new.self
frame c =
    framed c.args.pending.now.slab c.clear.new.pending.slab c.args.channels.now.items c.args.channel c.index_mut.result.now c.clear.new.self
    c.requires.inside (sym c.index_mut.ensures.value) c.requires.kept c.clear.ensures.kept c.clear.ensures.passes
    c.clear.ensures.room

pub returns-clause-ends : goal.returns-clause-ends
returns-clause-ends c = λ s there.
    framed-write (frame (goal.at.returns-clause-ends c).After-clear) (cleared_end) c.index_mut.result.now
    c.requires.inside (sym c.index_mut.ensures.value) c.clear.ensures.cleared c.args.channel refl s there

pub returns-clause-kept : goal.returns-clause-kept
returns-clause-kept c = (frame (goal.at.returns-clause-kept c).After-clear).keeps
