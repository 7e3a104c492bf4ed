use Rattle.std.proofs.Common.{◌<◌, length, sym, ◌∙◌, arith}
use Rattle.enet_senders.specs.Senders.{ends_of, cleared_end}
use Rattle.enet_senders.proofs.Each.{partly-length, partly-more, partly-all, ends-length}
use Rattle.enet_senders.proofs.senders.clear_each.Goals as goal

pub loop-channel-preserved : goal.loop-channel-preserved
loop-channel-preserved c =
    let es = ends_of c.args.pending.now.slab c.args.channels.now.items in
    let zs = ends_of c.clear_on.new.pending.slab c.clear_on.new.channels.items in
    let count = ends-length c.args.pending.now.slab c.args.channels.now.items in
    let inside : c.loop-channel.channel < length es = omega (arith, c.loop-channel-test.true, c.loop-channel.invariant.end) in
    let ends = partly-more cleared_end es (ends_of c.loop-channel.pending.slab c.loop-channel.channels.items) zs c.loop-channel.channel inside c.loop-channel.invariant.ends c.clear_on.ensures.ends in
    record {
      kept = c.clear_on.ensures.kept;
      ends = ends;
      len = sym (ends-length c.clear_on.new.pending.slab c.clear_on.new.channels.items) ∙ partly-length cleared_end _ es zs ends ∙ count;
      end = c.loop-channel.invariant.end;
    }

pub returns-clause-ends : goal.returns-clause-ends
returns-clause-ends c =
    let es = ends_of c.args.pending.now.slab c.args.channels.now.items in
    let count = ends-length c.args.pending.now.slab c.args.channels.now.items in
    partly-all cleared_end es _ c.loop-channel.channel (omega (arith, c.loop-channel-test.false, c.loop-channel.invariant.end)) c.loop-channel.invariant.ends
