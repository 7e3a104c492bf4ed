use Rattle.std.proofs.Common.{ap}
use Rattle.enet_slot.specs.Slotted.{Slotted, peer_shown}
use Rattle.enet_slot.proofs.Changes.{passes-of, gives-of}
use Rattle.enet_slot.proofs.slot.Slot.emit.Goals as goal

pub returns-in_default-emit-clause-passes : goal.returns-in_default-emit-clause-passes
returns-in_default-emit-clause-passes c =
    passes-of c.args.now c.emit.new.buf _ c.args.self.now.slot c.let_go.new.self.slot c.in-Some.peer.peer c.emit.new.self.peer
    (ap (λ (v : Slotted). v.slot) c.self.view_is) (ap peer_shown c.in-Some.is) c.in_default-emit.ensures c.let_go.ensures

pub returns-clause-gives : goal.returns-clause-gives
returns-clause-gives c =
    gives-of c.args.now c.in-Some-emit.len c.saturating_add-self-inside.result c.emit.new.buf _ c.args.self.now.slot c.let_go-2.new.self.slot c.in-Some.peer.peer c.emit.new.self.peer
    (ap (λ (v : Slotted). v.slot) c.self.view_is) (ap peer_shown c.in-Some.is) c.in-Some-emit.ensures c.saturating_add-self-inside.ensures c.let_go-2.ensures
