use Rattle.std.proofs.Common.{refl}
use Rattle.enet_service.proofs.Settled.{taken_is_sent, history_of_one, not_back_of}
use Rattle.enet_service.proofs.settling.settle_orders.Goals.{in-Ok-settle, in-Err}
use Rattle.enet_service.proofs.settling.settle_orders.Goals as goal

pub returns-clause-taken : goal.returns-clause-taken
returns-clause-taken c = elim c.match-settle.branch [
  | in-Ok-settle w ↦ rw w.result-is (taken_is_sent c.args.queue.now c.args.drain c.args.seat _ c.in-Ok.ensures.items c.requires.one (w.in-Ok-settle.ensures.settled.0 refl) w.in-Ok-settle.ensures.all_taken w.in-Ok-settle.ensures.empty)
  | in-Err w ↦ rw w.result-is tt
]

pub returns-clause-held : goal.returns-clause-held
returns-clause-held c = elim c.match-settle.branch [
  | in-Ok-settle w ↦ rw w.result-is tt
  | in-Err w ↦ rw w.result-is (λ held. not_back_of c.args.queue.now c.args.drain c.args.seat _ c.in-Ok.ensures.items w.in-Err.ensures.settled.1)
]

pub returns-clause-history : goal.returns-clause-history
returns-clause-history c = elim c.match-settle.branch [
  | in-Ok-settle w ↦ rw w.result-is (history_of_one c.args.queue.now c.args.drain c.requires.one w.in-Ok-settle.ensures.empty)
  | in-Err w ↦ rw w.result-is tt
]
