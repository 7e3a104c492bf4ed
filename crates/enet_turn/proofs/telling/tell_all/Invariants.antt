use Rattle.std.proofs.Common.{◌≡◌, List, Bool}
use Rattle.enet_codec.specs.declared.event.Event.{Event}
use Rattle.enet_turn.specs.Phases.{Chain}
use Rattle.enet_turn.specs.Counts.{taken_in, stopped}
use Rattle.enet_turn.proofs.PhaseSteps.{TellsOn}
use Rattle.enet_turn.proofs.telling.tell_all.Given as goal

abbrev pub invariant-loop-host : goal.invariant-loop-host
invariant-loop-host g l =
    (puts : List (Event × Bool)) × Chain (λ s x t. g.K.Sink.puts s x.0 x.1 t) l.initial.sink puts l.sink
    × (l.events ≡ stopped (taken_in puts))
    × TellsOn g.H.Core.calls (record { host = l.initial.host; waiting = l.initial.waiting }) puts (record { host = l.host; waiting = l.waiting })

abbrev pub decreases-loop-host : goal.decreases-loop-host
decreases-loop-host g l = g.H.Core.untold l.host
