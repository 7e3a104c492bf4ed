use Rattle.enet_receiver.specs.ReceiverParts.{receiver_of}
use Rattle.enet_receiver.proofs.Keeping.{Keeps-cleared}
use Rattle.enet_receiver.proofs.incoming.Incoming.clear.Goals as goal

pub invariant_of-self : goal.invariant_of-self
invariant_of-self c =
    let s = c.self.inside in
    rw (c.clear.ensures, c.clear-2.ensures) (Keeps-cleared s.max_packet (receiver_of s.front s.unreliable s.held s.waiting s.dispatched.items) c.self.invariant)
