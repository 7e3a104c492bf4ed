use Rattle.std.proofs.Common.{◌<◌, length, subst, arith}
use Rattle.enet_chat.specs.Private.Relaying.{IsPacket}
use Rattle.enet_chat.proofs.GroupingLemmas.{packets_more}
use Rattle.enet_chat.proofs.batch.packets_first.Goals as goal

pub loop-count-preserved : goal.loop-count-preserved
loop-count-preserved c =
    let events = c.args.backlog.now.items in
    let event = c.index.result.now in
    let inside : c.loop-count.count < length events = omega (arith, c.if-count-len.true, c.len.ensures) in
    let packet : IsPacket event = c.is_packet.ensures c.if-not-is_packet.false in
    (omega (arith, inside), packets_more events c.loop-count.count event inside c.loop-count.invariant.1 (subst IsPacket c.index.ensures packet))
