use Rattle.std.proofs.Common.{◌≡◌, ◌≤◌, List}
use Rattle.enet_wire.specs.Socket.{failures_of}
use Rattle.enet_guard.specs.Guarding.{ruling}
use Rattle.enet_guard.specs.Journals.{told_of}
use Rattle.enet_turn.specs.Turn.{Round}
use Rattle.enet_turn.specs.Run.{total}
use Rattle.enet_service.specs.ServiceRuns.{AreFew}
use Rattle.enet_serve.specs.Private.Alone.{Goes, pair}
use Rattle.enet_serve.proofs.alone.Alone.run_for_time.Given as goal

abbrev pub invariant-loop : goal.invariant-loop
invariant-loop g l =
    (failures_of l.bound.wire.wire ≡ failures_of l.fn.bound.wire.wire)
    × AreFew l.total
    × ((1 ≤ l.turns) × (l.turns ≤ 64))
    × (rounds : List Round)
    × Goes (pair l.fn.bound.service l.fn.self.relay (told_of l.fn.bound.wire) (failures_of l.fn.bound.wire.wire)) rounds (pair l.bound.service l.self.relay (told_of l.bound.wire) (failures_of l.bound.wire.wire))
    × (l.total ≡ total rounds)
    × (ruling l.bound.wire.guard ≡ ruling l.fn.bound.wire.guard)
