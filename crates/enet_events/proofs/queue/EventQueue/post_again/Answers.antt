use Rattle.std.specs.Prelude.{length}
use Rattle.std.proofs.Common.{sym, ap, arith}
use Rattle.enet_events.specs.Words.{PosterState}
use Rattle.enet_events.proofs.Rules.{posts}
use Rattle.enet_events.proofs.queue.EventQueue.post_again.Goals as goal

pub push_as-requires-clause-rule : goal.push_as-requires-clause-rule
push_as-requires-clause-rule g c =
    let p = c.poster.invariant in
    let seen = ap (λ (q : PosterState). length q.posted) c.poster.view_is in
    posts _ _ _ _ _ _ _ p.sees (sym p.counted) (omega (arith, seen, c.requires.1))
