use Rattle.std.proofs.Common.{sym, arith}
use Rattle.enet_sender.specs.Due.{SendingEnd, with_submitted}
use Rattle.enet_senders.proofs.Frames.{Framed, framed, framed-write}
use Rattle.enet_senders.proofs.Each.{refused-frame, where-ok}
use Rattle.enet_senders.proofs.senders.submit_on.Goals.{After-submit}
use Rattle.enet_senders.proofs.senders.submit_on.Goals as goal

frame : (c : After-submit) → Framed c.args.pending.now.slab c.submit.new.pending.slab c.args.channels.now.items c.from.result c.submit.new.self
frame c =
    framed c.args.pending.now.slab c.submit.new.pending.slab c.args.channels.now.items c.from.result c.index_mut.result.now c.submit.new.self
    (omega (arith, c.from.ensures, c.requires.inside)) (sym c.index_mut.ensures.value) c.requires.kept c.submit.ensures.kept c.submit.ensures.passes c.submit.ensures.room

pub returns-clause-queued : goal.returns-clause-queued
returns-clause-queued c = λ s there.
    where-ok c.submit.result (λ queued. framed-write (frame (goal.at.returns-clause-queued c).After-submit) (λ (e : SendingEnd). with_submitted c.args.mtu e c.args.flags c.args.body.now) c.index_mut.result.now
    (omega (arith, c.from.ensures, c.requires.inside)) (sym c.index_mut.ensures.value) queued c.args.channel c.from.ensures s there)
    c.submit.ensures.queued

pub returns-clause-refused : goal.returns-clause-refused
returns-clause-refused c =
    refused-frame c.args.pending.now.slab c.submit.new.pending.slab c.args.channels.now.items c.from.result c.index_mut.result.now c.submit.new.self c.submit.result c.submit.new.body c.args.body.now (frame (goal.at.returns-clause-refused c).After-submit)
    (omega (arith, c.from.ensures, c.requires.inside)) (sym c.index_mut.ensures.value) c.submit.ensures.refused

pub returns-clause-kept : goal.returns-clause-kept
returns-clause-kept c = (frame (goal.at.returns-clause-kept c).After-submit).keeps
