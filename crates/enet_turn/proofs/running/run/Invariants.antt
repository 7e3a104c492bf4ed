use Rattle.std.proofs.Common.{◌≡◌, List}
use Rattle.std.specs.Prelude.{length}
use Rattle.std.specs.List.{All}
use Rattle.enet_wire.specs.Wires.{also, unless_spent}
use Rattle.enet_turn.specs.Phases.{Chain}
use Rattle.enet_turn.specs.Turn.{Round}
use Rattle.enet_turn.specs.Run.{Rounds, IsSound, all_gave, all_told, all_puts, total}
use Rattle.enet_turn.proofs.running.run.Given as goal

abbrev pub invariant-loop-turn : goal.invariant-loop-turn
invariant-loop-turn g l =
    (rounds : List Round)
    × Rounds g.H.Core.calls l.initial.service rounds l.service
    × Chain g.S.Source.gives l.initial.source (all_gave rounds) l.source
    × Chain (λ s x t. g.K.Sink.puts s x.0 x.1 t) l.initial.sink (all_puts rounds) l.sink
    × (g.W.Wire.told l.wire ≡ also (g.W.Wire.told l.initial.wire) (unless_spent (g.W.Wire.faults l.initial.wire) (all_told rounds)))
    × (g.W.Wire.faults l.wire ≡ g.W.Wire.faults l.initial.wire)
    × All IsSound rounds
    × (length rounds ≡ l._turn)
    × (l.total ≡ total rounds)
    × (g.W.Wire.kept l.wire ≡ g.W.Wire.kept l.initial.wire)
