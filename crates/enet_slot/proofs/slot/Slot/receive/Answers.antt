use Rattle.std.proofs.Common.{ap}
use Rattle.enet_slot.specs.Slotted.{Slotted, peer_shown}
use Rattle.enet_slot.proofs.Changes.{hears-of}
use Rattle.enet_slot.proofs.slot.Slot.receive.Goals as goal

pub returns-clause-receives : goal.returns-clause-receives
returns-clause-receives c = λ occupied.
    hears-of (record { now = c.args.now; sent = c.args.sent; full = c.args.full }) c.args.commands.now _ c.args.self.now.slot c.let_go.new.self.slot c.in-Some.peer.peer c.receive-answer.new.peer.peer c.receive-answer.result
    (ap (λ (v : Slotted). v.slot) c.self.view_is) (ap peer_shown c.in-Some.is) c.receive-answer.ensures c.let_go.ensures
