use Rattle.std.proofs.Common.{◌≡◌, List}
use Rattle.std.specs.Prelude.{length}
use Rattle.enet_wire.specs.Socket.{failures_of}
use Rattle.enet_guard.specs.Guarding.{ruling}
use Rattle.enet_guard.specs.Journals.{told_of}
use Rattle.enet_turn.specs.Turn.{Round}
use Rattle.enet_turn.specs.Run.{total}
use Rattle.enet_serve.specs.Private.Alone.{Goes, pair}
use Rattle.enet_serve.proofs.alone.Alone.turn_by_turn.Given as goal

abbrev pub invariant-loop-turn : goal.invariant-loop-turn
invariant-loop-turn g l =
    (failures_of l.bound.wire.wire ≡ failures_of l.fn.bound.wire.wire)
    × (rounds : List Round)
    × Goes (pair l.fn.bound.service l.fn.self.relay (told_of l.fn.bound.wire) (failures_of l.fn.bound.wire.wire)) rounds (pair l.bound.service l.self.relay (told_of l.bound.wire) (failures_of l.bound.wire.wire))
    × (length rounds ≡ l._turn)
    × (l.total ≡ total rounds)
    × (ruling l.bound.wire.guard ≡ ruling l.fn.bound.wire.guard)
