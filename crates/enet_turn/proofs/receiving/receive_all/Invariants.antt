use Rattle.std.proofs.Common.{◌≡◌, List}
use Rattle.enet_wire.specs.declared.told.Told.{Told}
use Rattle.enet_wire.specs.Wires.{also, unless_spent}
use Rattle.enet_turn.specs.Counts.{came_in}
use Rattle.enet_turn.proofs.PhaseSteps.{HearsOn}
use Rattle.enet_turn.proofs.receiving.receive_all.Given as goal

abbrev pub invariant-loop-datagram : goal.invariant-loop-datagram
invariant-loop-datagram g l =
    (told : List Told)
    × (g.W.Wire.told l.wire ≡ also (g.W.Wire.told l.initial.wire) (unless_spent (g.W.Wire.faults l.initial.wire) told))
    × (g.W.Wire.faults l.wire ≡ g.W.Wire.faults l.initial.wire)
    × (l.received ≡ came_in told) × (l.received ≡ l._datagram)
    × HearsOn g.H.Core.calls l._datagram l.initial.host told l.host
    × (g.W.Wire.kept l.wire ≡ g.W.Wire.kept l.initial.wire)
