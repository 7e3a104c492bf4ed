use Rattle.std.proofs.Common.{◌≡◌, ℕ, List, Option, Some, None, IfNone, sym, subst, ◌∙◌, ap}
use Rattle.crossbeam_queue.specs.Fifo.{Held}
use Rattle.enet_events.specs.declared.numbered.Numbered.{Numbered}
use Rattle.enet_events.specs.Words.{QueueId, TakerState, TakerFits}
use Rattle.enet_bridge.proofs.event_receiver.EventReceiver.take.Goals as goal

abbrev SawNone : TakerState → Type 0
SawNone taker = Held 0 (λ held. (posted : List Numbered) × TakerFits taker posted held)

same_taker : (a b : TakerState) → a.queue ≡ b.queue → a.index ≡ b.index → a.taken ≡ b.taken → a ≡ b
same_taker a b queue index taken =
    let one : a ≡ record a { queue = b.queue } = ap (λ (q : QueueId). record a { queue = q }) queue in
    one ∙ ap (λ (n : ℕ). record a { queue = b.queue; index = n }) index
    ∙ ap (λ (xs : List Numbered). record a { queue = b.queue; index = b.index; taken = xs }) taken

saw_none : (r : Option Numbered) (a b : TakerState) → b.queue ≡ a.queue → b.index ≡ a.index → IfNone r (b.taken ≡ a.taken) → IfNone r (SawNone a) → IfNone r (SawNone b)
saw_none (Some x) a b queue index taken saw = saw
saw_none None a b queue index taken saw = subst (λ t. SawNone t) (sym (same_taker b a queue index taken)) saw

pub returns-clause-empty : goal.returns-clause-empty
returns-clause-empty g c =
    saw_none c.take.result c.args.self.now.taker c.take.new.taker c.take.ensures.own.0 c.take.ensures.own.1 c.take.ensures.none c.take.ensures.empty
