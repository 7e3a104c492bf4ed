use Rattle.std.proofs.Common.{◌≡◌, ◌∙◌, ℕ, true, false, List, sym, subst}
use Rattle.enet_codec.specs.Message.{view}
use Rattle.enet_peer.specs.Private.Handling.{is_passed}
use Rattle.enet_peer.proofs.Unconfirmed.{ComesAlike, away-alike, front-alike, none-alike, waits-alike}
use Rattle.enet_peer.proofs.datagram.may_confirm.Goals as goal

pub returns-then-not-is_answering : goal.returns-then-not-is_answering
returns-then-not-is_answering c = λ it. away-alike c.args.peer.now.peer c.args.commands.now (sym c.is_answering.ensures ∙ c.if-not-is_answering.true)

pub returns-then-not-is_passed : goal.returns-then-not-is_passed
returns-then-not-is_passed c =
    let p = c.args.peer.now.peer in
    let m = view c.in-Some.command in
    let last : is_passed m.body ≡ false = sym c.is_passed.ensures ∙ c.if-not-is_passed.true in
    λ it. waits-alike p c.args.commands.now (sym c.is_answering.ensures ∙ c.if-not-is_answering.false)
    (c.loop-command.invariant (front-alike p c.in-Some.len c.loop-command.rest.now m c.in-Some.ensures.found (sym c.matches_control.ensures ∙ c.if-matches_control.false)
    (λ is. absurd (let y : true ≡ false = sym is ∙ last in cc))))

pub loop-command-preserved : goal.loop-command-preserved
loop-command-preserved c =
    let p = c.args.peer.now.peer in
    λ rest. c.loop-command.invariant (front-alike p c.in-Some.len c.loop-command.rest.now (view c.in-Some.command) c.in-Some.ensures.found (sym c.matches_control.ensures ∙ c.if-matches_control.false)
    (λ is. subst (λ (bytes : List ℕ). ComesAlike p bytes) c.bytes_after-rest.ensures rest))

pub returns : goal.returns
returns c =
    let p = c.args.peer.now.peer in
    λ it. waits-alike p c.args.commands.now (sym c.is_answering.ensures ∙ c.if-not-is_answering.false) (c.loop-command.invariant (none-alike p c.loop-command.rest.now c.in_default.ensures.none))
