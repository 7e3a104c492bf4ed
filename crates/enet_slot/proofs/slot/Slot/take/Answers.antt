use Rattle.std.proofs.Common.{ap}
use Rattle.enet_slot.specs.Slotted.{Slotted, peer_shown}
use Rattle.enet_slot.proofs.Changes.{gives-event-of}
use Rattle.enet_slot.proofs.slot.Slot.take.Goals as goal

pub returns-clause-gives : goal.returns-clause-gives
returns-clause-gives c =
    gives-event-of c.args.number c.event_of.result c.in-Some-next_event.event _ c.args.self.now.slot c.let_go.new.self.slot c.in-Some.peer.peer c.next_event.new.self.peer
    (ap (λ (v : Slotted). v.slot) c.self.view_is) (ap peer_shown c.in-Some.is) c.in-Some-next_event.ensures c.event_of.ensures c.let_go.ensures
