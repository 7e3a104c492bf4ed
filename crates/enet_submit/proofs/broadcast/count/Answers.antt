use Rattle.std.proofs.Common.{◌+◌, arith}
use Rattle.enet_submit.proofs.Broadcasts.{more-peers, part-of}
use Rattle.enet_submit.proofs.broadcast.count.Goals as goal

pub returns-in_default-clause-none : goal.returns-in_default-clause-none
returns-in_default-clause-none c =
    let peers = c.args.peers.now in
    let packets = c.args.packets.now in
    let at = c.loop-peer.peer-index in
    let more = more-peers peers packets at (record { slot = 0; generation = 0 }) c.loop-peer-test.true in
    let part = part-of peers packets (at + 1) in
    let none = c.in_default.ensures.none in
    omega (arith, more, part, none, c.loop-peer.invariant)
