use Rattle.std.proofs.Common.{◌<◌, length, arith}
use Rattle.std.proofs.lemmas.List.Edits.{map_over_more}
use Rattle.enet_inbox.specs.Inbox.{given_way_receiver}
use Rattle.enet_inbox.proofs.receivers.give_way.Goals as goal

pub loop-channel-preserved : goal.loop-channel-preserved
loop-channel-preserved c =
    let inside : c.loop-channel.channel < length c.args.receivers.now.items = grind arith in
    rw c.give_way.ensures (map_over_more given_way_receiver c.args.receivers.now.items c.loop-channel.receivers.items c.loop-channel.channel c.index_mut-receiver.result.now inside c.loop-channel.invariant c.index_mut-receiver.ensures.value)
