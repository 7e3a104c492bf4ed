use Rattle.std.proofs.Common.{sym, subst, arith}
use Rattle.enet_receiver.specs.ArrivingData.{data_command}
use Rattle.enet_receiver.specs.Foresight.{ReceivingEnd}
use Rattle.enet_receiver.specs.Private.Admitted.{Admitted, IsInside}
use Rattle.enet_receiver.specs.Private.InPlace.{ComesAlone}
use Rattle.enet_receiver.specs.ReceiverParts.{receiver_of}
use Rattle.enet_receiver.proofs.PassedOn.{moved_keeps}
use Rattle.enet_receiver.proofs.incoming.Incoming.hand_out.Goals as goal

pub invariant_of-self : goal.invariant_of-self
invariant_of-self c =
    let s = c.self.inside in
    let d = data_command c.args.arriving in
    rw c.last_unreliable-self-inside.ensures (moved_keeps s.max_packet (receiver_of s.front s.unreliable s.held s.waiting s.dispatched.items) d c.self.invariant
    (subst (λ (e : ReceivingEnd). IsInside e.receiver.front c.args.arriving.head.number) (sym c.self.view_is) c.requires.inside)
    (omega arith)
    (subst (λ (e : ReceivingEnd). Admitted e.max_packet e.receiver (data_command c.args.arriving) c.args.arriving.head.number) (sym c.self.view_is) c.requires.admitted)
    (subst (λ (e : ReceivingEnd). ComesAlone e.receiver (data_command c.args.arriving)) (sym c.self.view_is) c.requires.alone))
