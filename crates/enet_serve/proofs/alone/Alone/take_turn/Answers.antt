use Rattle.std.proofs.Common.{◌+◌, ◌&&◌, not, [], ◌∷◌, refl, sym, ◌∙◌}
use Rattle.std.proofs.lemmas.Result.{err_from_is_err_and}
use Rattle.enet_wire.specs.Socket.{failures_of}
use Rattle.enet_guard.specs.Journals.{told_of}
use Rattle.enet_turn.specs.Counts.{lost_in, count_of}
use Rattle.enet_turn.specs.Turn.{Round}
use Rattle.enet_serve.specs.Private.Alone.{pair}
use Rattle.enet_serve.proofs.TurnByTurn.{goes_turn, goes_cut, one_total}
use Rattle.enet_serve.proofs.alone.Alone.take_turn.Goals as goal

pub returns-clause-goes : goal.returns-clause-goes
returns-clause-goes g c =
    let took = c.in_ok-report.ensures.turn in
    let r : Round = took.0 in
    let before = pair c.args.bound.now.service c.args.self.now.relay (told_of c.args.bound.now.wire) (failures_of c.args.bound.now.wire.wire) in
    let after = pair c.lone_turn.new.service c.lone_turn.new.relay (told_of c.lone_turn.new.wire) (failures_of c.lone_turn.new.wire.wire) in
    (r ∷ [], refl, sym took.1 ∙ one_total r took.2.came took.2.went (lost_in took.2.went + count_of (r.failed && not took.2.early)) took.2.counts, goes_turn before after r took.2 took.5 took.3 c.in_ok-report.ensures.behind c.in_ok-report.ensures.far_behind took.4 c.in_ok-report.ensures.sound)

pub returns-in_err-report-clause-goes_off : goal.returns-in_err-report-clause-goes_off
returns-in_err-report-clause-goes_off g c =
    let out = err_from_is_err_and c.from_residual.result c.from_residual.ensures.1 in
    let before = pair c.args.bound.now.service c.args.self.now.relay (told_of c.args.bound.now.wire) (failures_of c.args.bound.now.wire.wire) in
    let after = pair c.lone_turn.new.service c.lone_turn.new.relay (told_of c.lone_turn.new.wire) (failures_of c.lone_turn.new.wire.wire) in
    rw (out.1, out.2) (λ is. goes_cut before after (c.in_err-report.ensures.cut is))
