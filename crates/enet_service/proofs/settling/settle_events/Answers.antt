use Rattle.std.proofs.Common.{ap, sym, ◌∙◌}
use Rattle.enet_events.specs.Words.{QueueId}
use Rattle.enet_service.proofs.Settled.{taken_is_posted, fits_all, first_of_one}
use Rattle.enet_service.proofs.settling.settle_events.Goals.{in-Ok-settle, in-Err}
use Rattle.enet_service.proofs.settling.settle_events.Goals as goal

pub returns-clause-taken : goal.returns-clause-taken
returns-clause-taken c = elim c.match-settle.branch [
  | in-Ok-settle w ↦ rw w.result-is (taken_is_posted c.args.poster c.args.taker _ c.in-Ok.ensures.items (ap (λ (q : QueueId). q.takers) c.requires.poster ∙ c.requires.one) w.in-Ok-settle.ensures.taken w.in-Ok-settle.ensures.shared)
  | in-Err w ↦ rw w.result-is tt
]

pub returns-clause-fits : goal.returns-clause-fits
returns-clause-fits c = elim c.match-settle.branch [
  | in-Ok-settle w ↦ rw w.result-is (fits_all c.args.poster c.args.taker _ c.in-Ok.ensures.items (c.requires.taker ∙ sym c.requires.poster) w.in-Ok-settle.ensures.shared)
  | in-Err w ↦ rw w.result-is tt
]

pub returns-clause-first : goal.returns-clause-first
returns-clause-first c = elim c.match-settle.branch [
  | in-Ok-settle w ↦ rw w.result-is (first_of_one c.args.poster c.args.taker _ c.in-Ok.ensures.items (ap (λ (q : QueueId). q.takers) c.requires.poster ∙ c.requires.one) w.in-Ok-settle.ensures.taken)
  | in-Err w ↦ rw w.result-is tt
]
