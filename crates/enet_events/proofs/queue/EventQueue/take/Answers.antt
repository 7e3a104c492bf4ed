use Rattle.std.proofs.Common.{◌∷◌, List, ap, subst, ◌∙◌}
use Rattle.crossbeam_queue.specs.Fifo.{Held}
use Rattle.enet_events.specs.declared.numbered.Numbered.{Numbered}
use Rattle.enet_events.specs.Rule.{taken_of}
use Rattle.enet_events.specs.Words.{TakerState, TakerFits}
use Rattle.enet_events.proofs.Rules.{takes}
use Rattle.enet_events.proofs.queue.EventQueue.take.Goals as goal

pub pop_as-requires-clause-rule : goal.pop_as-requires-clause-rule
pop_as-requires-clause-rule g c = takes _ _ _ _ c.taker.invariant.within c.taker.invariant.sees

pub returns-in_err-item-clause-none : goal.returns-in_err-item-clause-none
returns-in_err-item-clause-none g c = rw c.from_residual.ensures (ap taken_of c.in_err-item.ensures.rule.0 ∙ ap (λ (t : TakerState). t.taken) c.taker.view_is)

pub returns-in_err-item-clause-empty : goal.returns-in_err-item-clause-empty
returns-in_err-item-clause-empty g c =
    let Empty : TakerState → Type 0 = λ t. Held {T = Numbered} 0 (λ held. (posted : List Numbered) × TakerFits t posted held) in
    rw c.from_residual.ensures (subst Empty c.taker.view_is c.in_err-item.ensures.rule.1)

pub returns-clause-moment : goal.returns-clause-moment
returns-clause-moment g c =
    let popped = c.in_ok-item.ensures.rule in (
      popped.4,
      popped.5,
      subst (λ (t : TakerState). TakerFits t popped.4 (c.in_ok-item.item ∷ popped.5)) c.taker.view_is popped.6,
      popped.7,
    )
