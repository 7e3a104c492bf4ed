use Rattle.std.proofs.Common.{List, [], ◌∷◌, ◌++◌, ap, ◌∙◌, arith}
use Rattle.std.specs.FinMap.{len}
use Rattle.enet_seq.specs.Numbering.{wire}
use Rattle.enet_seq.specs.Windows.{after}
use Rattle.enet_packets.specs.declared.incoming_packet.Dispatched.{Dispatched}
use Rattle.enet_receiver.specs.Receiver.{Receiver, without}
use Rattle.enet_receiver.specs.ReceiverParts.{receiver_of}
use Rattle.enet_receiver.proofs.Without.{len-without}
use Rattle.enet_receiver.proofs.Turns.{turn_is}
use Rattle.enet_receiver.proofs.releasing.dispatch_next.Goals as goal

pub flush-requires : goal.flush-requires
flush-requires c = record { room = (let fewer = c.pass.ensures.fewer in omega (arith, c.push_back_reserved.ensures.len, c.push_back_reserved.ensures.capacity, c.requires.room)) }

pub returns-clause-is : goal.returns-clause-is
returns-clause-is c =
    let r : Receiver = receiver_of c.args.front.now c.args.unreliable.now c.args.held.now c.args.waiting.now c.args.dispatched.now.items in
    turn_is r c.args.coming c.pass.result c.flush.new.last c.pass.new.held c.pass.new.waiting c.flush.new.self c.push_back_reserved.new.self.items c.flush.new.dispatched.items
    (c.pass.ensures.front ∙ ap (after c.args.front.now) c.count.ensures.value)
    (c.pass.ensures.held ∙ ap (without wire c.args.held.now (after c.args.front.now 1)) c.count.ensures.value)
    (c.pass.ensures.waiting ∙ ap (without wire c.args.waiting.now c.args.front.now) c.count.ensures.value)
    (◌∙◌ {A = List Dispatched} c.push_back_reserved.ensures.items (ap (λ (d : Dispatched). c.args.dispatched.now.items ++ d ∷ []) c.handed_out.ensures))
    c.flush.ensures.items c.flush.ensures.last c.flush.ensures.rest

pub returns-clause-fewer : goal.returns-clause-fewer
returns-clause-fewer c =
    let most = len-without wire c.args.held.now (after c.args.front.now 1) c.count.result in
    let same = ap len c.pass.ensures.held in
    omega arith

pub returns-clause-room : goal.returns-clause-room
returns-clause-room c =
    let fewer = c.pass.ensures.fewer in
    omega (arith, c.push_back_reserved.ensures.len, c.push_back_reserved.ensures.capacity, c.flush.ensures.room)
