use Rattle.std.proofs.Common.{length}
use Rattle.enet_codec.specs.declared.event.Received.{Received}
use Rattle.enet_peer.specs.Peering.{Peering}
use Rattle.enet_peer.specs.Handling.{Handles}
use Rattle.enet_peer.proofs.datagram.handle.Given as goal

-- what comes of the bytes that are left is what comes of all
abbrev pub invariant-loop-rest : goal.invariant-loop-rest
invariant-loop-rest l =
    (answer : Received) (after : Peering) → Handles (record { now = l.now; sent = l.sent; full = l.full }) (record { handled = l.handled; peer = l.peer.peer }) l.rest answer after
    → Handles (record { now = l.now; sent = l.sent; full = l.full }) (record { handled = 0; peer = l.fn.peer.peer }) l.commands answer after

abbrev pub decreases-loop-rest : goal.decreases-loop-rest
decreases-loop-rest l = length l.rest
