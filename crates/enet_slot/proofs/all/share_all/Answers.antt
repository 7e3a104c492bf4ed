use Rattle.std.proofs.Common.{arith}
use Rattle.enet_slot.specs.Sharing.{shared}
use Rattle.enet_slot.proofs.OverAll.{map-more, map-done}
use Rattle.enet_slot.proofs.all.share_all.Goals as goal

pub loop-place-preserved : goal.loop-place-preserved
loop-place-preserved c =
    let len = c.loop-place.invariant.len in
    let end = c.loop-place.invariant.end in
    record {
      items = map-more (shared c.args.outgoing c.args.standing) c.args.slots.now.items c.loop-place.slots.items c.loop-place.place c.index_mut.result.now c.share.new.self (grind arith) (grind arith)
          c.loop-place.invariant.items c.index_mut.ensures.value c.share.ensures;
      len = grind arith;
      end = end;
    }

pub returns-clause-slots : goal.returns-clause-slots
returns-clause-slots c =
    map-done (shared c.args.outgoing c.args.standing) c.args.slots.now.items c.loop-place.slots.items c.loop-place.place (grind (arith, c.loop-place.invariant.end)) c.loop-place.invariant.items
