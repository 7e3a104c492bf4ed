use Rattle.std.proofs.Common.{arith}
use Rattle.enet_receiver.specs.ReceiverParts.{receiver_of}
use Rattle.enet_receiver.proofs.Bounds.{packets_fit}
use Rattle.enet_receiver.proofs.incoming.Incoming.packets.Goals as goal

pub overflow_add-result : goal.overflow_add-result
overflow_add-result c =
    let s = c.self.inside in
    let fit = packets_fit s.max_packet (receiver_of s.front s.unreliable s.held s.waiting s.dispatched.items) c.self.invariant in
    omega (arith, c.len.ensures.len, c.packets.ensures)

pub returns-clause-few : goal.returns-clause-few
returns-clause-few c =
    let s = c.self.inside in
    let fit = packets_fit s.max_packet (receiver_of s.front s.unreliable s.held s.waiting s.dispatched.items) c.self.invariant in
    omega (arith, c.len.ensures.len, c.packets.ensures)
