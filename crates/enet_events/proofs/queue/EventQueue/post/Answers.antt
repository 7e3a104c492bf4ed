use Rattle.std.proofs.Common.{sym, arith}
use Rattle.enet_events.proofs.Rules.{posts}
use Rattle.enet_events.proofs.queue.EventQueue.post.Goals as goal

pub try_push_as-requires-clause-rule : goal.try_push_as-requires-clause-rule
try_push_as-requires-clause-rule g c = let p = c.poster.invariant in (posts _ _ _ _ _ _ _ p.sees (sym p.counted) (omega arith)).0
