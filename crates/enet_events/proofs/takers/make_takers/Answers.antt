use Rattle.enet_events.proofs.Rules.{new_one}
use Rattle.enet_events.proofs.takers.make_takers.Goals as goal

pub another-theirs-requires-clause-rule : goal.another-theirs-requires-clause-rule
another-theirs-requires-clause-rule c = new_one _ _ _ _ _ c.loop-index.invariant.1
