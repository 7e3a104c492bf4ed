use Rattle.std.proofs.Common.{◌<◌, length, set, ap, ◌∙◌, arith}
use Rattle.std.proofs.lemmas.List.Edits.{map_over_more}
use Rattle.enet_sender.specs.declared.outgoing.Outgoing.{Outgoing}
use Rattle.enet_senders.specs.Private.Seeking.{seeking}
use Rattle.enet_senders.proofs.senders.seek_anew.Goals as goal

pub loop-channel-preserved : goal.loop-channel-preserved
loop-channel-preserved c =
    let inv = c.loop-channel.invariant in
    let inside : c.loop-channel.channel < length c.args.channels.now.items = omega (arith, c.loop-channel-test.true, inv.end) in
    record {
      done = ap (λ (o : Outgoing). set c.loop-channel.channels.items c.loop-channel.channel o) c.seek_anew.ensures
          ∙ map_over_more seeking c.args.channels.now.items c.loop-channel.channels.items c.loop-channel.channel c.index_mut.result.now inside inv.done c.index_mut.ensures.value;
      end = inv.end;
    }
