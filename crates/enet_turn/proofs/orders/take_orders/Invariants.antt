use Rattle.std.proofs.Common.{◌≡◌, ◌≤◌, List, Bool, Option}
use Rattle.enet_codec.specs.declared.event.Event.{Event}
use Rattle.enet_submit.specs.declared.order.Submission.{Submission}
use Rattle.enet_turn.specs.Phases.{Chain}
use Rattle.enet_turn.specs.Counts.{taken_in, given_in}
use Rattle.enet_turn.proofs.PhaseSteps.{OrdersOn}
use Rattle.enet_turn.proofs.orders.take_orders.Given as goal

abbrev pub invariant-loop-order : goal.invariant-loop-order
invariant-loop-order g l =
    (gave : List (Option Submission)) × Chain g.S.Source.gives l.initial.source gave l.source
    × (puts : List (Event × Bool)) × Chain (λ s x t. g.K.Sink.puts s x.0 x.1 t) l.initial.sink puts l.sink
    × (l.orders ≡ given_in gave) × (l.events ≡ taken_in puts) × (l.orders ≡ l._order) × (l.events ≤ l._order)
    × OrdersOn g.H.Core.calls l._order (record { host = l.initial.host; waiting = l.initial.waiting }) gave
    (record { service = record { host = l.host; waiting = l.waiting }; puts = puts })
