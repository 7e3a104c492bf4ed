use Rattle.std.proofs.Common.{◌≡◌, ◌≤◌, List}
use Rattle.enet_bridge.specs.Serving.{queue_of}
use Rattle.enet_turn.specs.Turn.{Round}
use Rattle.enet_service.specs.ServiceRuns.{AreFew, Spell, standing}
use Rattle.enet_service.proofs.run_length.turns_for.Given as goal

abbrev pub invariant-loop : goal.invariant-loop
invariant-loop g l =
    (queue_of l.source ≡ queue_of l.fn.source)
    × AreFew l.total
    × ((1 ≤ l.turns) × (l.turns ≤ 64))
    × (rounds : List Round)
    × Spell (standing l.fn.service l.fn.source l.fn.sink (g.N.Wire.told l.fn.wire) (g.N.Wire.faults l.fn.wire)) rounds
    (standing l.service l.source l.sink (g.N.Wire.told l.wire) (g.N.Wire.faults l.wire)) l.total
    × (g.N.Wire.kept l.wire ≡ g.N.Wire.kept l.fn.wire)
