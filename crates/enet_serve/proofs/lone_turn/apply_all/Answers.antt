use Rattle.std.proofs.Common.{◌≡◌, List, [], ◌∷◌, ◌++◌, Bool, Option, refl}
use Rattle.enet_codec.specs.declared.event.Event.{Event}
use Rattle.enet_submit.specs.declared.order.Submission.{Submission}
use Rattle.enet_chat.specs.declared.lone.LoneRelay.{LoneRelay}
use Rattle.enet_turn.specs.LoneTurn.{Applied, gave_in, puts_in}
use Rattle.enet_turn.proofs.PhaseSteps.{chain_step}
use Rattle.enet_serve.specs.Private.Passing.{Passes}
use Rattle.enet_serve.proofs.Passing.{of_orders, passes_expanded, passes_then, obeyed_more, orders_report}
use Rattle.enet_serve.proofs.lone_turn.apply_all.Goals as goal

pub loop-round-init : goal.loop-round-init
loop-round-init g c = ([], refl, passes_expanded _ _ c.in_default.ensures.expands, c.in_default.ensures.behind, c.in_default.ensures.far_behind, c.nothing-report.ensures)

pub loop-round-preserved : goal.loop-round-preserved
loop-round-preserved g c =
    let inv = c.loop-round.invariant in
    let os : List Applied = inv.0 in
    let applied = c.apply_orders-orders.ensures.applies in
    let o : Applied = record { gave = applied.0; puts = applied.1 } in
    let first : LoneRelay = c.args.relay.now in
    let now : LoneRelay = c.loop-round.relay in
    let given : LoneRelay = record now { orders = c.apply_orders-orders.new.source; events = c.apply_orders-orders.new.sink } in
    let last : LoneRelay = c.expand.new.relay in
    let after = c.in_default-expand.ensures in (
      os ++ o ∷ [],
      chain_step _ _ os _ o _ inv.1 applied.4,
      obeyed_more (λ gave puts. Passes first gave puts last) os o
          (passes_then first now given last (gave_in os) o.gave (puts_in os) o.puts inv.2 refl applied.2 applied.3 after.expands),
      after.behind,
      after.far_behind,
      obeyed_more (λ gave puts. c.and-report.result ≡ of_orders gave puts) os o
          (orders_report c.loop-round.report c.apply_orders-orders.result c.and-report.result (gave_in os) o.gave (puts_in os) o.puts inv.5 applied.5 c.and-report.ensures),
    )
