use Rattle.std.proofs.Common.{◌≡◌, ◌+◌, List, [], ◌∷◌, ◌++◌, Bool, Option, refl, subst, sym, ◌∙◌, inl, arith, rules}
use Rattle.std.proofs.lemmas.List.{length-append}
use Rattle.std.proofs.lemmas.List.Elements.{All-nil, All-push}
use Rattle.std.proofs.lemmas.Result.{err_from_is_err_and}
use Rattle.enet_codec.specs.declared.event.Event.{Event}
use Rattle.enet_submit.specs.declared.order.Submission.{Submission}
use Rattle.enet_turn.specs.Phases.{Chain}
use Rattle.enet_turn.specs.Turn.{Round}
use Rattle.enet_turn.specs.Run.{IsSound}
use Rattle.enet_turn.proofs.PhaseSteps.{chain_more, chain_step}
use Rattle.enet_turn.proofs.Tellings.{also_nothing}
use Rattle.enet_turn.proofs.Runs.{all_more, told_more, total_more}
use Rattle.enet_turn.proofs.running.run.Goals as goal

pub loop-turn-init : goal.loop-turn-init
loop-turn-init g c = ([], refl, refl, refl, also_nothing _ _, refl, All-nil IsSound, refl, c.nothing-total.ensures, refl)

pub loop-turn-preserved : goal.loop-turn-preserved
loop-turn-preserved g c =
    let inv = c.loop-turn.invariant in
    let rounds : List Round = inv.0 in
    let turn = c.in_ok-report.ensures.turn in
    let r : Round = turn.0 in
    let waited : g.W.Wire.faults c.wait.new.self ≡ g.W.Wire.faults c.args.wire.now = c.in-Ok.ensures.faults ∙ inv.5 in
    let turned : g.W.Wire.faults c.turn_through.new.wire ≡ g.W.Wire.faults c.wait.new.self + 0 = c.in_ok-report.ensures.faults in (
      rounds ++ r ∷ [],
      chain_step _ _ rounds _ r _ inv.1 turn.6,
      subst (λ (xs : List (Option Submission)). Chain g.S.Source.gives c.args.source.now xs c.turn_through.new.source) (sym (all_more (λ r. r.gave) rounds r)) (chain_more _ _ _ _ _ _ inv.2 turn.3),
      subst (λ (xs : List (Event × Bool)). Chain (λ s x t. g.K.Sink.puts s x.0 x.1 t) c.args.sink.now xs c.turn_through.new.sink) (sym (all_more (λ r. r.puts) rounds r)) (chain_more _ _ _ _ _ _ inv.3 turn.5),
      told_more _ _ _ _ _ _ _ _ rounds r inv.4 inv.5 c.in-Ok.ensures.told turn.1 waited turn.4,
      omega (arith, turned, waited),
      All-push IsSound rounds r inv.6 turn.2,
      omega (arith, length-append rounds (r ∷ []), inv.7),
      total_more _ _ _ rounds r inv.8 turn.7 c.and-total.ensures,
      c.in_ok-report.ensures.kept ∙ (c.in-Ok.ensures.kept ∙ inv.9),
    )

pub returns-in_err-report-clause-run : goal.returns-in_err-report-clause-run
returns-in_err-report-clause-run g c =
    let inv = c.loop-turn.invariant in
    let rounds : List Round = inv.0 in
    let turn = c.in_err-report.ensures.turn in
    let r : Round = turn.0 in
    let waited : g.W.Wire.faults c.wait.new.self ≡ g.W.Wire.faults c.args.wire.now = c.in-Ok.ensures.faults ∙ inv.5 in
    let out = err_from_is_err_and c.from_residual.result c.from_residual.ensures.1 in (
      rounds ++ r ∷ [],
      chain_step _ _ rounds _ r _ inv.1 turn.6,
      subst (λ (xs : List (Option Submission)). Chain g.S.Source.gives c.args.source.now xs c.turn_through.new.source) (sym (all_more (λ r. r.gave) rounds r)) (chain_more _ _ _ _ _ _ inv.2 turn.3),
      subst (λ (xs : List (Event × Bool)). Chain (λ s x t. g.K.Sink.puts s x.0 x.1 t) c.args.sink.now xs c.turn_through.new.sink) (sym (all_more (λ r. r.puts) rounds r)) (chain_more _ _ _ _ _ _ inv.3 turn.5),
      told_more _ _ _ _ _ _ _ _ rounds r inv.4 inv.5 c.in-Ok.ensures.told turn.1 waited turn.4,
      rw (out.1, out.2) (inl (record { before = rounds; last = r; in_order = refl; sound = inv.6; within = omega (arith, inv.7); failed = turn.2; told = turn.7 })),
    )

pub returns-clause-run : goal.returns-clause-run
returns-clause-run c = search rules
