use Rattle.std.proofs.Common.{arith}
use Rattle.enet_receiver.specs.ReceiverParts.{receiver_of}
use Rattle.enet_receiver.proofs.Bounds.{bytes_fit}
use Rattle.enet_receiver.proofs.incoming.Incoming.held.Goals as goal

pub overflow_add-result : goal.overflow_add-result
overflow_add-result c =
    let s = c.self.inside in
    let fit = bytes_fit s.max_packet (receiver_of s.front s.unreliable s.held s.waiting s.dispatched.items) c.self.invariant.packet c.self.invariant in
    omega (arith, c.bytes.ensures.bytes, c.bytes-2.ensures)
