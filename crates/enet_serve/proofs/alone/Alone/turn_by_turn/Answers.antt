use Rattle.std.proofs.Common.{List, [], ◌++◌, refl, ◌∙◌, arith}
use Rattle.std.proofs.lemmas.List.{length-append}
use Rattle.enet_chat.proofs.Expansions.{expands_none}
use Rattle.enet_wire.specs.Socket.{failures_of}
use Rattle.enet_guard.specs.Journals.{told_of}
use Rattle.enet_turn.specs.Turn.{Round}
use Rattle.enet_service.proofs.Spells.{total_of_both}
use Rattle.enet_serve.specs.Private.Alone.{pair}
use Rattle.enet_serve.proofs.TurnByTurn.{goes_nowhere, goes_on, goes_off}
use Rattle.enet_serve.proofs.alone.Alone.turn_by_turn.Goals as goal

pub loop-turn-init : goal.loop-turn-init
loop-turn-init g c = (refl, [], goes_nowhere _ _ refl refl refl (expands_none _ _ refl refl refl refl refl) c.requires.behind c.requires.far_behind, refl, c.nothing-total.ensures, refl)

pub loop-turn-preserved : goal.loop-turn-preserved
loop-turn-preserved g c =
    let inv = c.loop-turn.invariant in
    let before : List Round = inv.1 in
    let more : List Round = c.in-Ok.ensures.goes.0 in
    let first = pair c.args.bound.now.service c.args.self.now.relay (told_of c.args.bound.now.wire) (failures_of c.args.bound.now.wire.wire) in
    let second = pair c.loop-turn.bound.service c.loop-turn.self.relay (told_of c.loop-turn.bound.wire) (failures_of c.loop-turn.bound.wire.wire) in
    let third = pair c.take_turn.new.bound.service c.take_turn.new.self.relay (told_of c.take_turn.new.bound.wire) (failures_of c.take_turn.new.bound.wire.wire) in (
      c.in-Ok.ensures.sound ∙ inv.0,
      before ++ more,
      goes_on first second third before more inv.2 c.in-Ok.ensures.goes.3,
      omega (arith, length-append before more, inv.3, c.in-Ok.ensures.goes.1),
      total_of_both c.loop-turn.total c.in-Ok.report c.and-total.result before more inv.4 c.in-Ok.ensures.goes.2 c.and-total.ensures,
      c.in-Ok.ensures.kept ∙ inv.5,
    )

pub returns-in-Err-clause-goes_off : goal.returns-in-Err-clause-goes_off
returns-in-Err-clause-goes_off g c =
    let inv = c.loop-turn.invariant in
    let before : List Round = inv.1 in
    let first = pair c.args.bound.now.service c.args.self.now.relay (told_of c.args.bound.now.wire) (failures_of c.args.bound.now.wire.wire) in
    let second = pair c.loop-turn.bound.service c.loop-turn.self.relay (told_of c.loop-turn.bound.wire) (failures_of c.loop-turn.bound.wire.wire) in
    let third = pair c.take_turn.new.bound.service c.take_turn.new.self.relay (told_of c.take_turn.new.bound.wire) (failures_of c.take_turn.new.bound.wire.wire) in
    λ is. (let more = c.in-Err.ensures.goes_off is in (before ++ more.0, omega (arith, length-append before more.0, inv.3, more.1), goes_off first second third before more.0 inv.2 more.2))
