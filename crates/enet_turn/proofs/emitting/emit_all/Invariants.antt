use Rattle.std.proofs.Common.{◌≡◌, ◌<◌, ◌+◌, List}
use Rattle.enet_wire.specs.declared.told.Told.{Told}
use Rattle.enet_wire.specs.Wires.{also, unless_spent}
use Rattle.enet_turn.specs.Counts.{went_in, lost_in}
use Rattle.enet_turn.proofs.PhaseSteps.{SendsOn}
use Rattle.enet_turn.proofs.emitting.emit_all.Given as goal

abbrev pub invariant-loop-datagram : goal.invariant-loop-datagram
invariant-loop-datagram g l =
    (told : List Told)
    × (g.W.Wire.told l.wire ≡ also (g.W.Wire.told l.initial.wire) (unless_spent (g.W.Wire.faults l.initial.wire) told))
    × (g.W.Wire.faults l.wire ≡ g.W.Wire.faults l.initial.wire)
    × (l.sent ≡ went_in told) × (l.lost ≡ lost_in told) × (l.sent + l.lost ≡ l._datagram) × (l.lost < 16)
    × SendsOn g.H.Core.calls l._datagram l.lost l.initial.host told l.host
    × (g.W.Wire.kept l.wire ≡ g.W.Wire.kept l.initial.wire)
