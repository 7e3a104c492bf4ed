use Rattle.std.proofs.Common.{arith, subst, sym}
use Rattle.enet_receiver.specs.ArrivingData.{data_command}
use Rattle.enet_receiver.specs.Foresight.{ReceivingEnd}
use Rattle.enet_receiver.specs.Private.Admitted.{Admitted, IsInside}
use Rattle.enet_receiver.specs.Invariant.{Keeps}
use Rattle.enet_receiver.specs.ReceiverParts.{receiver_of}
use Rattle.enet_receiver.proofs.Keeping.{pieces_of_kept, Keeps-all_released}
use Rattle.enet_receiver.proofs.Bounds.{packets_fit}
use Rattle.enet_receiver.proofs.Taken.{kept_then}
use Rattle.enet_receiver.proofs.incoming.Incoming.keep.Goals as goal

pub make_room-requires : goal.make_room-requires
make_room-requires c =
    let s = c.self.inside in
    let fit = packets_fit s.max_packet (receiver_of s.front s.unreliable s.held s.waiting s.dispatched.items) c.self.invariant in
    omega arith

pub store-requires-clause-agrees : goal.store-requires-clause-agrees
store-requires-clause-agrees c = (subst (λ (e : ReceivingEnd). Admitted e.max_packet e.receiver (data_command c.args.arriving) c.args.place) (sym c.self.view_is) c.requires.admitted).agrees

pub store-requires-clause-missing : goal.store-requires-clause-missing
store-requires-clause-missing c = (subst (λ (e : ReceivingEnd). Admitted e.max_packet e.receiver (data_command c.args.arriving) c.args.place) (sym c.self.view_is) c.requires.admitted).missing

pub release-requires-clause-pieces : goal.release-requires-clause-pieces
release-requires-clause-pieces c =
    let s = c.self.inside in
    pieces_of_kept s.max_packet (receiver_of s.front s.unreliable c.store.new.held c.store.new.waiting c.make_room.new.dispatched.items)
    (kept_then s.max_packet s.front s.unreliable s.held s.waiting s.dispatched.items c.make_room.new.dispatched.items (data_command c.args.arriving) c.args.place c.store.new.held c.store.new.waiting
    c.self.invariant
    (subst (λ (e : ReceivingEnd). Admitted e.max_packet e.receiver (data_command c.args.arriving) c.args.place) (sym c.self.view_is) c.requires.admitted)
    (subst (λ (e : ReceivingEnd). IsInside e.receiver.front c.args.place) (sym c.self.view_is) c.requires.inside)
    (omega arith) c.make_room.ensures.items (c.store.ensures.stored c.if-not-store.false))

pub invariant_of-self-2 : goal.invariant_of-self-2
invariant_of-self-2 c =
    let s = c.self.inside in
    subst (Keeps c.self.inside.max_packet) (sym c.release.ensures)
    (Keeps-all_released s.max_packet (receiver_of s.front s.unreliable c.store.new.held c.store.new.waiting c.make_room.new.dispatched.items)
    (kept_then s.max_packet s.front s.unreliable s.held s.waiting s.dispatched.items c.make_room.new.dispatched.items (data_command c.args.arriving) c.args.place c.store.new.held c.store.new.waiting
    c.self.invariant
    (subst (λ (e : ReceivingEnd). Admitted e.max_packet e.receiver (data_command c.args.arriving) c.args.place) (sym c.self.view_is) c.requires.admitted)
    (subst (λ (e : ReceivingEnd). IsInside e.receiver.front c.args.place) (sym c.self.view_is) c.requires.inside)
    (omega arith) c.make_room.ensures.items (c.store.ensures.stored c.if-not-store.false)))
