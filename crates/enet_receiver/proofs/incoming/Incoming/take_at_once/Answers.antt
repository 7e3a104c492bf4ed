use Rattle.std.proofs.Common.{◌≡◌, [], true, eqb, length, sym, subst, ◌∙◌, arith}
use Rattle.std.specs.VecDeque.{deque_len}
use Rattle.std.proofs.lemmas.Bool.Decides.{nat_tests}
use Rattle.std.proofs.lemmas.List.{nil_from_length}
use Rattle.enet_receiver.specs.ArrivingData.{data_command}
use Rattle.enet_receiver.specs.Foresight.{ReceivingEnd}
use Rattle.enet_receiver.proofs.PassedOn.{own_at_once, held_at_once, passed_at_once}
use Rattle.enet_receiver.proofs.incoming.Incoming.take_at_once.Goals as goal

pub hand_out-requires-clause-admitted : goal.hand_out-requires-clause-admitted
hand_out-requires-clause-admitted c = (own_at_once c.args.self.now (data_command c.args.arriving) (c.goes_at_once.ensures c.if-not-goes_at_once.false)).admitted

pub returns-clause-held : goal.returns-clause-held
returns-clause-held c = held_at_once c.args.self.now (data_command c.args.arriving) c.hand_out.result (c.goes_at_once.ensures c.if-not-goes_at_once.false)

pub returns-clause-taken : goal.returns-clause-taken
returns-clause-taken c =
    let none_left : eqb (deque_len c.self.inside.dispatched) 0 ≡ true = sym c.is_empty.ensures ∙ c.if-not-is_empty.false in
    let counted : length c.self.inside.dispatched.items ≡ 0 = (let empty : deque_len c.self.inside.dispatched ≡ 0 = grind (arith, nat_tests) in omega (arith, c.self.inside.dispatched.ok.0)) in
    passed_at_once c.args.self.now c.hand_out.new.self (data_command c.args.arriving) c.hand_out.result (c.goes_at_once.ensures c.if-not-goes_at_once.false)
    (subst (λ (x : ReceivingEnd). x.receiver.dispatched ≡ []) c.self.view_is (nil_from_length _ counted)) c.hand_out.ensures.moved c.hand_out.ensures.packet
