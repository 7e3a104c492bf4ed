use Rattle.std.proofs.Common.{◌≡◌, ◌<◌, [], true, eqb, length, sym, subst, ◌∙◌, arith}
use Rattle.std.specs.VecDeque.{deque_len}
use Rattle.std.proofs.lemmas.Bool.Decides.{nat_tests}
use Rattle.std.proofs.lemmas.List.{nil_from_length}
use Rattle.enet_receiver.specs.ArrivingData.{data_command}
use Rattle.enet_receiver.specs.Foresight.{ReceivingEnd}
use Rattle.enet_receiver.specs.Invariant.{Keeps}
use Rattle.enet_receiver.specs.Private.InPlace.{ComesAlone}
use Rattle.enet_receiver.proofs.Taken.{IsOwn, own_command}
use Rattle.enet_receiver.proofs.PassedOn.{own_number, passed_on}
use Rattle.enet_receiver.proofs.incoming.Incoming.take_in_at_once.Goals as goal

pub returns-clause-taken : goal.returns-clause-taken
returns-clause-taken c =
    let e = c.args.self.now in
    let d = data_command c.args.arriving in
    let alone : ComesAlone c.args.self.now.receiver (data_command c.args.arriving) = c.comes_alone.ensures c.if-not-comes_alone.false in
    let own : IsOwn c.args.self.now (data_command c.args.arriving) c.args.arriving.head.number = own_command e d (c.requires.0) c.args.arriving.head.number
    (subst (λ (x : ReceivingEnd). x.receiver.front < 65536) c.self.view_is c.self.invariant.wire) (omega arith) (own_number d alone.single) c.requires.1 in
    let none_left : eqb (deque_len c.self.inside.dispatched) 0 ≡ true = sym c.is_empty.ensures ∙ c.if-not-is_empty.false in
    let counted : length c.self.inside.dispatched.items ≡ 0 = (let empty : deque_len c.self.inside.dispatched ≡ 0 = grind (arith, nat_tests) in omega (arith, c.self.inside.dispatched.ok.0)) in
    passed_on e c.hand_out.new.self d c.hand_out.result (subst (λ (x : ReceivingEnd). Keeps x.max_packet x.receiver) c.self.view_is c.self.invariant) own alone (subst (λ (x : ReceivingEnd). x.receiver.dispatched ≡ []) c.self.view_is (nil_from_length _ counted)) c.hand_out.ensures.moved c.hand_out.ensures.packet
