use Rattle.std.proofs.Common.{◌≡◌, List}
use Rattle.enet_chat.specs.Relaying.{AreBehind, AreFarBehind}
use Rattle.enet_turn.specs.LoneTurn.{Applied, AppliesAll, gave_in, puts_in}
use Rattle.enet_serve.specs.Private.Passing.{Passes}
use Rattle.enet_serve.proofs.Passing.{of_orders}
use Rattle.enet_serve.proofs.lone_turn.apply_all.Given as goal

abbrev pub invariant-loop-round : goal.invariant-loop-round
invariant-loop-round g l =
    (applied : List Applied)
    × AppliesAll g.H.Core.calls l.fn.service applied l.service
    × Passes l.fn.relay (gave_in applied) (puts_in applied) l.relay
    × AreBehind l.relay.events l.relay.orders
    × AreFarBehind 256 l.relay.events l.relay.orders
    × (l.report ≡ of_orders (gave_in applied) (puts_in applied))
