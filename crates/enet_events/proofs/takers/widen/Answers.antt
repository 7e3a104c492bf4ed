use Rattle.enet_events.proofs.Rules.{one_more}
use Rattle.enet_events.proofs.takers.widen.Goals as goal

pub another-spent-requires-clause-rule : goal.another-spent-requires-clause-rule
another-spent-requires-clause-rule c = one_more _ _ _ c.loop.invariant.1
