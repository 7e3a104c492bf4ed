use Rattle.std.proofs.Common.{arith, ◌∙◌}
use Rattle.enet_slot.specs.Sharing.{wants_room}
use Rattle.enet_slot.proofs.Shown.{same-shown}
use Rattle.enet_slot.proofs.OverAll.{room-more, all-room, one-among}
use Rattle.enet_slot.proofs.all.reserve_all.Goals as goal

pub loop-place-preserved : goal.loop-place-preserved
loop-place-preserved c =
    let len = c.loop-place.invariant.len in
    let end = c.loop-place.invariant.end in
    record {
      items = same-shown c.loop-place.slots.items c.loop-place.place c.index_mut.result.now c.reserve.new.self c.index_mut.ensures.value c.reserve.ensures.unchanged ∙ c.loop-place.invariant.items;
      room = room-more c.loop-place.slots.items c.loop-place.place c.reserve.new.self (grind arith) c.loop-place.invariant.room c.in_ok-reserve.ensures.room;
      len = len;
      end = end;
    }

pub returns-in_err-reserve-clause-unchanged : goal.returns-in_err-reserve-clause-unchanged
returns-in_err-reserve-clause-unchanged c =
    same-shown c.loop-place.slots.items c.loop-place.place c.index_mut.result.now c.reserve.new.self c.index_mut.ensures.value c.reserve.ensures.unchanged ∙ c.loop-place.invariant.items

pub returns-in_err-reserve-clause-wanted : goal.returns-in_err-reserve-clause-wanted
returns-in_err-reserve-clause-wanted c =
    one-among wants_room c.from_residual.result c.args.slots.now.items c.loop-place.slots.items c.loop-place.place c.index_mut.result.now (grind arith) c.index_mut.ensures.value
    c.loop-place.invariant.items c.in_err-reserve.ensures.wanted

pub returns-clause-room : goal.returns-clause-room
returns-clause-room c = all-room c.loop-place.slots.items c.loop-place.place (grind arith) c.loop-place.invariant.room
