use Rattle.std.proofs.Common.{refl, ◌∙◌, subst, sym, arith}
use Rattle.enet_receiver.specs.ArrivingData.{data_command}
use Rattle.enet_receiver.specs.Foresight.{ReceivingEnd}
use Rattle.enet_receiver.specs.Private.Admitted.{Admitted, IsInside}
use Rattle.enet_receiver.specs.ReceiverParts.{receiver_of}
use Rattle.enet_receiver.specs.Private.Walk.{Completes}
use Rattle.enet_receiver.specs.declared.foreseeing.TheConstants.{MOST_TURNS}
use Rattle.enet_receiver.proofs.Taken.{dispatches-at}
use Rattle.enet_receiver.proofs.incoming.Incoming.dispatches.Goals as goal

pub returns : goal.returns
returns c = rw (← c.self.view_is) (
    let s = c.self.inside in
    let d = data_command c.args.arriving in
    λ full held. c.dispatches.ensures
    ∙ dispatches-at MOST_TURNS s.max_packet c.completed.result (receiver_of s.front s.unreliable s.held s.waiting s.dispatched.items) d full c.args.place refl c.self.invariant
    (subst (λ (e : ReceivingEnd). IsInside e.receiver.front c.args.place) (sym c.self.view_is) c.requires.inside)
    (omega arith)
    (subst (λ (e : ReceivingEnd). Admitted e.max_packet e.receiver (data_command c.args.arriving) c.args.place) (sym c.self.view_is) c.requires.admitted)
    (subst (λ (e : ReceivingEnd). Completes c.completed.result e.receiver (data_command c.args.arriving) c.args.place) (sym c.self.view_is) c.completed.ensures)
    held)
