use Rattle.std.proofs.Common.{map, ap}
use Rattle.slab.specs.Slab.{get}
use Rattle.enet_sender.specs.Rings.{rings_of, command_of}
use Rattle.enet_sender.proofs.Rounds.{Marks, marks-sent, marks-queued, marks-keeps, marks-passes}
use Rattle.enet_sender.proofs.outgoing.Outgoing.mark.Goals.{After-mark_all}
use Rattle.enet_sender.proofs.outgoing.Outgoing.mark.Goals as goal

marks : (c : After-mark_all) → Marks c.args.tick (get c.args.pending.now.slab) (get c.mark_all.new.pending.slab) (rings_of c.args.self.now)
marks c = record { keeps = c.requires; changed = c.mark_all.ensures }

pub returns-clause-marked : goal.returns-clause-marked
returns-clause-marked c =
    let h = marks (goal.at.returns-clause-marked c).After-mark_all in
    let queued = ap (map command_of) (marks-queued h) in
    let sent = marks-sent h in
    λ i. record {
      channel = c.args.self.now.channel;
      sender = record { number = c.args.self.now.number; unreliable = c.args.self.now.unreliable; queued = queued i; sent = sent i };
    }

pub returns-clause-kept : goal.returns-clause-kept
returns-clause-kept c = marks-keeps (marks (goal.at.returns-clause-kept c).After-mark_all)

pub returns-clause-passes : goal.returns-clause-passes
returns-clause-passes c = marks-passes (marks (goal.at.returns-clause-passes c).After-mark_all)
