use Rattle.enet_receiver.specs.ReceiverParts.{receiver_of}
use Rattle.enet_receiver.proofs.Keeping.{Keeps-without_waiting}
use Rattle.enet_receiver.proofs.incoming.Incoming.take_in_instead.Goals as goal

pub invariant_of-self : goal.invariant_of-self
invariant_of-self c =
    let s = c.self.inside in
    rw (c.replace-aside.ensures.after, c.new.ensures) (Keeps-without_waiting s.max_packet (receiver_of s.front s.unreliable s.held s.waiting s.dispatched.items) c.self.invariant)
