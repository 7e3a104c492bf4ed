use Rattle.std.proofs.Common.{◌≡◌, true, subst, sym, ◌∙◌, ◌+◌, arith}
use Rattle.enet_codec.specs.declared.event.Outward.{Outward}
use Rattle.enet_codec.specs.Outward.{goes_to}
use Rattle.enet_submit.proofs.Broadcasts.{more-for, part-for}
use Rattle.enet_submit.proofs.broadcast.count_for.Goals as goal

pub returns-then-all-clause-none : goal.returns-then-all-clause-none
returns-then-all-clause-none c =
    let packets = c.args.packets.now in
    let at = c.loop-packet.packet-index in
    let goes = subst (λ (q : Outward). goes_to q c.args.peer ≡ true) c.packet-item.is (sym c.goes_to.ensures ∙ c.if-goes_to.true) in
    let more = more-for c.args.peer packets at c.packet-item.result true c.loop-packet-test.true goes in
    let part = part-for c.args.peer packets (at + 1) in
    omega (arith, more, part, c.loop-packet.invariant, c.if-all.true)
