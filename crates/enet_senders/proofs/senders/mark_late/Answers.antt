use Rattle.std.proofs.Common.{List, ap, sym, subst, ◌∙◌}
use Rattle.slab.specs.Slab.{get}
use Rattle.enet_sender.specs.declared.outgoing.Outgoing.{Outgoing}
use Rattle.enet_senders.specs.Senders.{ends_of, KeepsAll}
use Rattle.enet_senders.proofs.Lateness.{all-marked, ends-marked}
use Rattle.enet_senders.proofs.Sums.{late-over}
use Rattle.enet_senders.proofs.senders.mark_late.Goals as goal

pub returns-clause-ends : goal.returns-clause-ends
returns-clause-ends c =
    ap (ends_of c.mark_all-late.new.self.slab) c.seek_anew.ensures
    ∙ ends-marked c.args.tick c.args.pending.now.slab c.mark_all-late.new.self.slab c.args.channels.now.items c.mark_all-late.ensures.marked

pub returns-clause-kept : goal.returns-clause-kept
returns-clause-kept c =
    subst (λ (os : List Outgoing). KeepsAll (get c.mark_all-late.new.self.slab) os) (sym c.seek_anew.ensures)
    (all-marked c.args.tick c.args.pending.now.slab c.mark_all-late.new.self.slab c.args.channels.now.items c.mark_all-late.ensures.marked c.requires)

pub returns-clause-late : goal.returns-clause-late
returns-clause-late c =
    let s = c.args.pending.now.slab in
    late-over c.args.tick s c.args.channels.now.items c.mark_all-late.result c.requires c.mark_all-late.ensures.low c.mark_all-late.ensures.late
