use Rattle.std.proofs.Common.{◌≡◌, if◌then◌else◌, ap, ◌∙◌, arith, List}
use Rattle.std.specs.Int.{from_bool}
use Rattle.std.specs.List.{count_by}
use Rattle.std.proofs.lemmas.List.{take_all}
use Rattle.enet_slot.specs.declared.slot.Slot.{Slot}
use Rattle.enet_slot.specs.Yielding.{is_guest_of}
use Rattle.enet_slot.specs.Slotted.{shown, all_shown}
use Rattle.enet_slot.proofs.OverAll.{count-more, one-if, at-most-one}
use Rattle.enet_slot.proofs.guests.count_guests.Goals as goal

pub loop-slot-preserved : goal.loop-slot-preserved
loop-slot-preserved c =
    let more = count-more (is_guest_of c.args.ip) c.args.slots.now c.loop-slot.slot-index c.slot-item.result c.loop-slot-test.true c.slot-item.is in
    let counted = c.loop-slot.invariant.counted in
    let few = c.loop-slot.invariant.few in
    let one : c.from-count.result ≡ (if is_guest_of c.args.ip (shown c.slot-item.result) then 1 else 0) =
    c.from-count.ensures ∙ ap from_bool c.is_guest_of.ensures ∙ one-if (is_guest_of c.args.ip (shown c.slot-item.result)) in
    let small = at-most-one (is_guest_of c.args.ip (shown c.slot-item.result)) in
    record {
      counted = omega (arith, more, counted, one);
      few = omega (arith, one, small, few);
    }

pub returns : goal.returns
returns c = c.loop-slot.invariant.counted ∙ ap (λ (xs : List Slot). count_by (is_guest_of c.args.ip) (all_shown xs)) (take_all c.loop-slot.slot-index c.args.slots.now c.loop-slot-test.false)
