use Rattle.std.proofs.Common.{set, sym, ap, subst, ◌∙◌, arith, slice_get}
use Rattle.enet_seq.specs.Numbering.{wire}
use Rattle.enet_sender.specs.Sender.{next, wants_room}
use Rattle.enet_sender.specs.Due.{SendingEnd, Did}
use Rattle.enet_sender.specs.Rings.{end_of}
use Rattle.enet_senders.specs.Senders.{ends_of}
use Rattle.enet_senders.proofs.Frames.{Framed, framed, end-there}
use Rattle.enet_senders.proofs.senders.next_due_on.Goals.{After-next_due}
use Rattle.enet_senders.proofs.senders.next_due_on.Goals as goal

frame : (c : After-next_due) → Framed c.args.pending.now.slab c.next_due.new.pending.slab c.args.channels.now.items c.from.result c.next_due.new.self
frame c =
    framed c.args.pending.now.slab c.next_due.new.pending.slab c.args.channels.now.items c.from.result c.index_mut.result.now c.next_due.new.self
    (omega (arith, c.from.ensures, c.requires.inside)) (sym c.index_mut.ensures.value) c.requires.kept c.next_due.ensures.kept c.next_due.ensures.passes c.next_due.ensures.room

pub returns-clause-did : goal.returns-clause-did
returns-clause-did c = λ s there.
    let new : SendingEnd = end_of c.next_due.new.pending.slab c.next_due.new.self in
    let es = ends_of c.args.pending.now.slab c.args.channels.now.items in
    let is = end-there c.args.pending.now.slab c.args.channels.now.items c.from.result c.index_mut.result.now s (omega (arith, c.from.ensures, c.requires.inside)) (sym c.index_mut.ensures.value) (ap (λ k. slice_get es k) c.from.ensures ∙ there) in
    let P : SendingEnd → Type 0 = λ e. Did (next wire c.args.occasion e.sender) (wants_room c.args.occasion e.sender) c.next_due.result e new (record { old = c.args.buf.now; at = c.args.at; new = c.next_due.new.buf }) in
    (new, ((frame (goal.at.returns-clause-did c).After-next_due).ends ∙ ap (λ k. set es k new) c.from.ensures, subst P is c.next_due.ensures.did))

pub returns-clause-kept : goal.returns-clause-kept
returns-clause-kept c = (frame (goal.at.returns-clause-kept c).After-next_due).keeps
