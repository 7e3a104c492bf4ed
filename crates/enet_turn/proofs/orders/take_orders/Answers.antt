use Rattle.std.proofs.Common.{◌≡◌, ◌≤◌, List, [], ◌∷◌, ◌++◌, Bool, Option, Some, None, refl, ◌∙◌, sym, inl, inr, arith}
use Rattle.enet_codec.specs.declared.event.Event.{Event}
use Rattle.enet_submit.specs.declared.order.Submission.{Submission}
use Rattle.enet_turn.specs.Counts.{taken_in}
use Rattle.enet_turn.proofs.Options.{some_is, none_is}
use Rattle.enet_turn.proofs.PhaseSteps.{orders_on, orders_end, orders_none, chain_more, chain_step}
use Rattle.enet_turn.proofs.Tellings.{taken_more, given_more}
use Rattle.enet_turn.proofs.orders.take_orders.Goals as goal

pub loop-order-init : goal.loop-order-init
loop-order-init g c = ([], refl, [], refl, refl, refl, refl, omega arith, λ more others new rest. rest)

pub returns-then-is_some : goal.returns-then-is_some
returns-then-is_some g c =
    let inv = c.loop-order.invariant in
    let waits = some_is c.loop-order.waiting.refusal (sym c.is_some.ensures ∙ c.if-is_some.true) in
    (inv.0, inv.1, inv.2, inv.3, orders_end _ _ _ _ inv.0 inv.2 inv.8 (inl waits), inv.4, inv.5)

pub returns : goal.returns
returns g c =
    let inv = c.loop-order.invariant in
    (inv.0, inv.1, inv.2, inv.3, orders_end _ _ _ _ inv.0 inv.2 inv.8 (inr (omega arith)), inv.4, inv.5)

pub returns-in-None : goal.returns-in-None
returns-in-None g c =
    let inv = c.loop-order.invariant in
    let none = none_is c.loop-order.waiting.refusal (sym c.is_some.ensures ∙ c.if-is_some.false) in
    let puts : List (Event × Bool) = inv.2 in
    let gave : List (Option Submission) = inv.0 in (
      gave ++ None ∷ [],
      chain_step _ _ _ _ _ _ inv.1 c.in-None.ensures,
      puts,
      inv.3,
      orders_none _ _ _ _ gave puts (omega arith) none inv.8,
      omega (arith, given_more gave (None ∷ []), inv.4),
      inv.5,
    )

pub loop-order-preserved : goal.loop-order-preserved
loop-order-preserved g c =
    let inv = c.loop-order.invariant in
    let none = none_is c.loop-order.waiting.refusal (sym c.is_some.ensures ∙ c.if-is_some.false) in
    let puts : List (Event × Bool) = inv.2 in
    let gave : List (Option Submission) = inv.0 in
    let mine : List (Event × Bool) = c.apply_submission-events.ensures.0 in
    let counted : c.apply_submission-events.result ≡ taken_in mine = c.apply_submission-events.ensures.3 in
    let few : c.apply_submission-events.result ≤ 1 = c.apply_submission-events.ensures.4 in (
      gave ++ Some c.in-Some.submission ∷ [],
      chain_step _ _ _ _ _ _ inv.1 c.in-Some.ensures,
      puts ++ mine,
      chain_more _ _ _ _ _ _ inv.3 c.apply_submission-events.ensures.1,
      omega (arith, given_more gave (Some c.in-Some.submission ∷ []), inv.4),
      omega (arith, taken_more puts mine, inv.5, counted),
      omega (arith, inv.6),
      omega (arith, inv.7, few),
      orders_on g.H.Core.calls c.loop-order._order _ _ _ gave puts mine _ (omega arith) none inv.8 c.apply_submission-events.ensures.2,
    )
