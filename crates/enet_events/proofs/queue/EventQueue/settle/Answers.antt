use Rattle.std.proofs.Common.{sym, subst, rules}
use Rattle.crossbeam_queue.specs.Passes.{view}
use Rattle.enet_events.specs.Rule.{posting, takers_of, posted_of, known_of, PosterKnows}
use Rattle.enet_events.specs.Private.Rule.{made_of}
use Rattle.enet_events.specs.Words.{IsAllTaken, IsSharedOut}
use Rattle.enet_events.specs.Tokens.{poster_state}
use Rattle.enet_events.proofs.Rules.{looks}
use Rattle.enet_events.proofs.Settles.{settled}
use Rattle.enet_events.proofs.queue.EventQueue.settle.Goals as goal

pub learn_as-requires-clause-rule : goal.learn_as-requires-clause-rule
learn_as-requires-clause-rule c = looks _ _ _ _ _ _ c.take_in-pass.ensures.pass.1

pub returns-clause-shared : goal.returns-clause-shared
returns-clause-shared c =
    let v = view c.poster.inside.pass in
    let held = c.learn_as.ensures.rule.0 in
    let knows : PosterKnows (posting (takers_of v) (made_of v) (posted_of v) (known_of (view c.take_in-pass.result))) held =
    subst (λ w. PosterKnows w held) c.take_in-pass.ensures.pass.1 c.learn_as.ensures.rule.1 in
    let all : IsAllTaken c.args.poster c.args.takers.items = search rules in
    subst (λ p. IsSharedOut p c.args.takers.items) c.poster.view_is
    (settled (poster_state c.poster.inside.pass) c.args.takers.items (known_of (view c.take_in-pass.result)) held knows.0 knows.1 (subst (λ p. IsAllTaken p c.args.takers.items) (sym c.poster.view_is) all) c.take_in-pass.ensures.known)

pub returns-in_default-clause-held : goal.returns-in_default-clause-held
returns-in_default-clause-held c = search rules
