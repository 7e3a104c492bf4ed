use Rattle.std.proofs.Common.{◌≡◌, ◌∙◌, [], ◌∷◌, ◌++◌, ap, rules, arith}
use Rattle.crossbeam_queue.specs.Passes.{view}
use Rattle.enet_events.specs.Rule.{share, known_of}
use Rattle.enet_events.specs.Words.{TakerState}
use Rattle.enet_events.proofs.Rules.{joins}
use Rattle.enet_events.proofs.Settles.{joined_view, All_front, still, none_left}
use Rattle.enet_events.proofs.takers.take_in.Goals as goal

pub absorb-requires-clause-rule : goal.absorb-requires-clause-rule
absorb-requires-clause-rule c = joins _ _ _ _ _ _ _ _ _ _ _ c.loop-last.invariant.1 c.last.invariant.sees

pub loop-last-preserved : goal.loop-last-preserved
loop-last-preserved c =
    let joined = joined_view _ _ _ _ _ _ _ _ c.loop-last.invariant.1 c.last.invariant.sees c.absorb.ensures.rule in
    let told = joined.1 ∙ ap (λ (t : TakerState). known_of (view c.loop-last.pass) ++ share t.index t.taken ∷ []) c.last.view_is in (
      (search rules),
      joined.0,
      All_front (λ t. t.queue.table ≡ c.args.ring.now.table.shared.table_id) _ _ _ c.in-Some.ensures.items c.loop-last.invariant.2,
      λ t a. still _ _ _ _ _ c.in-Some.ensures.items told t (c.loop-last.invariant.3 t a),
    )

pub returns-clause-known : goal.returns-clause-known
returns-clause-known c = none_left _ c.loop-last.takers.items _ (omega (arith, c.in_default.ensures.cases)) c.loop-last.invariant.3
