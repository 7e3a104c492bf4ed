use Rattle.std.proofs.Common.{List, [], ◌++◌, refl, sym, subst, ◌∙◌, arith, rules}
use Rattle.std.proofs.lemmas.Result.{err_from_is_err_and}
use Rattle.enet_chat.proofs.Expansions.{expands_none}
use Rattle.enet_wire.specs.Socket.{failures_of}
use Rattle.enet_guard.specs.Journals.{told_of}
use Rattle.enet_turn.specs.Turn.{Round}
use Rattle.enet_service.specs.ServiceRuns.{AreFew}
use Rattle.enet_service.proofs.Spells.{total_of_both}
use Rattle.enet_serve.specs.Private.Alone.{pair}
use Rattle.enet_serve.proofs.TurnByTurn.{goes_nowhere, goes_on, goes_off}
use Rattle.enet_serve.proofs.alone.Alone.run_for_time.Goals as goal

pub loop-init : goal.loop-init
loop-init g c = (
  refl,
  subst AreFew (sym c.nothing-total.ensures) (omega arith, omega arith),
  (omega arith, omega arith),
  [],
  goes_nowhere _ _ refl refl refl (expands_none _ _ refl refl refl refl refl) c.requires.behind c.requires.far_behind,
  c.nothing-total.ensures,
  refl,
)

pub loop-preserved : goal.loop-preserved
loop-preserved g c =
    let inv = c.loop.invariant in
    let before : List Round = inv.3 in
    let more : List Round = c.in_ok-report.ensures.goes.0 in
    let first = pair c.args.bound.now.service c.args.self.now.relay (told_of c.args.bound.now.wire) (failures_of c.args.bound.now.wire.wire) in
    let second = pair c.loop.bound.service c.loop.self.relay (told_of c.loop.bound.wire) (failures_of c.loop.bound.wire.wire) in
    let third = pair c.run_for_turns.new.bound.service c.run_for_turns.new.self.relay (told_of c.run_for_turns.new.bound.wire) (failures_of c.run_for_turns.new.bound.wire.wire) in (
      c.in_ok-report.ensures.sound ∙ inv.0,
      c.is_over.ensures.few (search rules),
      (c.turns_from-turns.ensures.some inv.2.0, c.turns_from-turns.ensures.most),
      before ++ more,
      goes_on first second third before more inv.4 c.in_ok-report.ensures.goes.3,
      total_of_both c.loop.total c.in_ok-report.report c.and-total.result before more inv.5 c.in_ok-report.ensures.goes.2 c.and-total.ensures,
      c.in_ok-report.ensures.kept ∙ inv.6,
    )

pub returns-then-wants_end-clause-goes : goal.returns-then-wants_end-clause-goes
returns-then-wants_end-clause-goes g c =
    let inv = c.loop.invariant in
    let before : List Round = inv.3 in
    let more : List Round = c.in_ok-report.ensures.goes.0 in
    let first = pair c.args.bound.now.service c.args.self.now.relay (told_of c.args.bound.now.wire) (failures_of c.args.bound.now.wire.wire) in
    let second = pair c.loop.bound.service c.loop.self.relay (told_of c.loop.bound.wire) (failures_of c.loop.bound.wire.wire) in
    let third = pair c.run_for_turns.new.bound.service c.run_for_turns.new.self.relay (told_of c.run_for_turns.new.bound.wire) (failures_of c.run_for_turns.new.bound.wire.wire) in (
      before ++ more,
      record { before = before; last = more; all = refl; some = let low = inv.2 in let so_many = c.in_ok-report.ensures.goes.1 in omega arith; most = let low = inv.2 in let so_many = c.in_ok-report.ensures.goes.1 in omega arith; few = subst AreFew inv.5 inv.1 },
      total_of_both c.loop.total c.in_ok-report.report c.and-total.result before more inv.5 c.in_ok-report.ensures.goes.2 c.and-total.ensures,
      goes_on first second third before more inv.4 c.in_ok-report.ensures.goes.3,
    )

pub returns-in_err-report-clause-goes_off : goal.returns-in_err-report-clause-goes_off
returns-in_err-report-clause-goes_off g c =
    let out = err_from_is_err_and c.from_residual.result c.from_residual.ensures.1 in
    let inv = c.loop.invariant in
    let before : List Round = inv.3 in
    let first = pair c.args.bound.now.service c.args.self.now.relay (told_of c.args.bound.now.wire) (failures_of c.args.bound.now.wire.wire) in
    let second = pair c.loop.bound.service c.loop.self.relay (told_of c.loop.bound.wire) (failures_of c.loop.bound.wire.wire) in
    let third = pair c.run_for_turns.new.bound.service c.run_for_turns.new.self.relay (told_of c.run_for_turns.new.bound.wire) (failures_of c.run_for_turns.new.bound.wire.wire) in
    rw (out.1, out.2) (λ is. (let more = c.in_err-report.ensures.goes_off is in (before ++ more.0, record { before = before; last = more.0; all = refl; most = let low = inv.2 in let so_many = more.1 in omega arith; few = subst AreFew inv.5 inv.1 }, goes_off first second third before more.0 inv.4 more.2)))
