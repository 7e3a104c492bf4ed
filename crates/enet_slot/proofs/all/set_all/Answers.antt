use Rattle.std.proofs.Common.{arith}
use Rattle.enet_peer.specs.Peering.{Peering}
use Rattle.enet_peer.specs.Calls as peers
use Rattle.enet_slot.specs.Slot.{changed}
use Rattle.enet_slot.proofs.OverAll.{map-more, map-done, still-room, later-more}
use Rattle.enet_slot.proofs.all.set_all.Goals as goal

pub set_bandwidth-requires : goal.set_bandwidth-requires
set_bandwidth-requires c =
    let len = c.loop-place.invariant.len in
    let end = c.loop-place.invariant.end in
    still-room c.args.slots.now.items c.loop-place.slots.items c.loop-place.place c.index_mut.result.now c.requires (grind arith) c.index_mut.ensures.value
    (c.loop-place.invariant.later c.loop-place.place c.index_mut.result.now (omega arith))

pub loop-place-preserved : goal.loop-place-preserved
loop-place-preserved c =
    let len = c.loop-place.invariant.len in
    let end = c.loop-place.invariant.end in
    record {
      items = map-more (changed (λ (p : Peering). peers.with_bandwidth p c.args.incoming c.args.outgoing)) c.args.slots.now.items c.loop-place.slots.items c.loop-place.place c.index_mut.result.now c.set_bandwidth.new.self (grind arith) (grind arith)
          c.loop-place.invariant.items c.index_mut.ensures.value c.set_bandwidth.ensures;
      later = later-more c.args.slots.now.items c.loop-place.slots.items c.loop-place.place c.set_bandwidth.new.self c.loop-place.invariant.later;
      len = len;
      end = end;
    }

pub returns-clause-slots : goal.returns-clause-slots
returns-clause-slots c =
    map-done (changed (λ (p : Peering). peers.with_bandwidth p c.args.incoming c.args.outgoing)) c.args.slots.now.items c.loop-place.slots.items c.loop-place.place (grind (arith, c.loop-place.invariant.end)) c.loop-place.invariant.items
