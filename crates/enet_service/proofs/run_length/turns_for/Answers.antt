use Rattle.std.proofs.Common.{List, [], ◌++◌, refl, sym, subst, ◌∙◌, arith, rules}
use Rattle.std.proofs.lemmas.Result.{err_from_is_err_and}
use Rattle.enet_turn.specs.Turn.{Round}
use Rattle.enet_service.specs.ServiceRuns.{AreFew}
use Rattle.enet_service.proofs.Spells.{no_turn, further, cut_after}
use Rattle.enet_service.proofs.run_length.turns_for.Goals as goal

pub loop-init : goal.loop-init
loop-init g c = (refl, subst AreFew (sym c.nothing-total.ensures) (omega arith, omega arith), (omega arith, omega arith), [], no_turn _ _ c.nothing-total.ensures, refl)

pub loop-preserved : goal.loop-preserved
loop-preserved g c =
    let before : List Round = c.loop.invariant.3 in
    let more : List Round = c.in_ok-report.ensures.turns.0 in (
      c.in_ok-report.ensures.queue ∙ c.loop.invariant.0,
      c.is_over.ensures.few (search rules),
      (c.turns_from-turns.ensures.some c.loop.invariant.2.0, c.turns_from-turns.ensures.most),
      before ++ more,
      further _ _ _ before more _ _ _ c.loop.invariant.4 c.in_ok-report.ensures.turns.2 c.and-total.ensures,
      c.in_ok-report.ensures.kept ∙ c.loop.invariant.5,
    )

pub returns-then-has_left-clause-turns : goal.returns-then-has_left-clause-turns
returns-then-has_left-clause-turns g c =
    let before : List Round = c.loop.invariant.3 in
    let more : List Round = c.in_ok-report.ensures.turns.0 in
    let few = c.loop.invariant.2 in
    let so_many = c.in_ok-report.ensures.turns.1 in (
      before ++ more,
      record { before = before; last = more; all = refl; some = omega arith; most = omega arith; few = subst AreFew c.loop.invariant.4.totals c.loop.invariant.1 },
      further _ _ _ before more _ _ _ c.loop.invariant.4 c.in_ok-report.ensures.turns.2 c.and-total.ensures,
    )

pub returns-in_err-report-clause-cut : goal.returns-in_err-report-clause-cut
returns-in_err-report-clause-cut g c =
    let out = err_from_is_err_and c.from_residual.result c.from_residual.ensures.1 in
    rw (out.1) (cut_after _ _ _ c.args.time _ c.loop.invariant.3 _ c.loop.invariant.2.1 c.loop.invariant.1 c.loop.invariant.4 c.in_err-report.ensures.cut)
