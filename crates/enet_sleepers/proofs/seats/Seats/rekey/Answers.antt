use Rattle.std.proofs.Common.{refl, ◌∙◌, arith}
use Rattle.enet_slot.specs.Slotted.{all_shown}
use Rattle.enet_slot.proofs.Shown.{length-shown}
use Rattle.enet_sleepers.proofs.Found.{found-more, seats-anew}
use Rattle.enet_sleepers.proofs.seats.Seats.rekey.Goals as goal

pub returns : goal.returns
returns c =
    let slots = c.args.slots.now in
    let inv = c.loop-number.invariant in
    seats-anew c.args.self.now c.loop-number.self (all_shown slots) c.loop-number.number c.requires inv.count (omega (arith, length-shown slots, c.loop-number-test.false, inv.end)) inv.found

pub loop-number-preserved : goal.loop-number-preserved
loop-number-preserved c =
    let inv = c.loop-number.invariant in
    record {
      count = c.enter_held.ensures.count ∙ inv.count;
      found = found-more c.loop-number.self c.enter_held.new.self (all_shown c.args.slots.now) c.loop-number.number inv.count c.enter_held.ensures.here c.enter_held.ensures.others inv.found;
      end = refl;
    }
