use Rattle.std.proofs.Common.{◌≡◌, ◌+◌, ◌*◌, ◌<◌, ◌≤◌, ℕ, cond, length, get_or, refl, sym, ap, subst, ◌∙◌, arith}
use Rattle.std.specs.Int.{from_bool}
use Rattle.enet_slot.specs.Giving.{unused_slot}
use Rattle.enet_slot.specs.Slot.{SlotState}
use Rattle.enet_slot.specs.Slotted.{shown, all_shown}
use Rattle.enet_slot.specs.Yielding.{is_guest_of}
use Rattle.enet_slot.proofs.OverAll.{one-if, at-most-one}
use Rattle.enet_slot.proofs.Shown.{length-shown}
use Rattle.enet_sleepers.specs.Places.{row_of}
use Rattle.enet_sleepers.specs.Seating.{Seating, KeepsSeats}
use Rattle.enet_sleepers.specs.contracts.seats.Seats.{the_view}
use Rattle.enet_sleepers.proofs.Offered.{shown-at}
use Rattle.enet_sleepers.proofs.Rows.{count-all, count-one, count-passed, passed-none}
use Rattle.enet_sleepers.proofs.seats.Seats.count_guests.Goals as goal

pub loop-number-init : goal.loop-number-init
loop-number-init c =
    let slots = all_shown c.args.slots.now in
    let v = the_view c.self.inside in
    let ip = c.args.ip in
    let len = length-shown c.args.slots.now in
    let kept : KeepsSeats v slots = subst (λ (x : Seating). KeepsSeats x slots) (sym c.self.view_is) c.requires in
    let first = c.first_of_row-first.result in
    let at : first ≡ row_of v.key ip * length v.others = c.first_of_row-first.ensures.is ∙ ap (λ (n : ℕ). c.row_of.result * n) c.len.ensures ∙ ap (λ (n : ℕ). n * length v.others) c.row_of.ensures in
    let p = c.next_in_row-number.ensures in
    let within : c.next_in_row-number.result ≤ length slots = omega (arith, p.within, len) in
    record {
      within = omega (arith, within, len);
      counted = count-passed (is_guest_of ip) slots 0 c.next_in_row-number.result 0 p.past within (passed-none v slots ip first (length c.args.slots.now) 0 c.next_in_row-number.result kept at (sym len) p) refl;
      few = omega arith;
    }

pub loop-number-preserved : goal.loop-number-preserved
loop-number-preserved c =
    let slots = all_shown c.args.slots.now in
    let v = the_view c.self.inside in
    let ip = c.args.ip in
    let len = length-shown c.args.slots.now in
    let kept : KeepsSeats v slots = subst (λ (x : Seating). KeepsSeats x slots) (sym c.self.view_is) c.requires in
    let first = c.first_of_row-first.result in
    let at : first ≡ row_of v.key ip * length v.others = c.first_of_row-first.ensures.is ∙ ap (λ (n : ℕ). c.row_of.result * n) c.len.ensures ∙ ap (λ (n : ℕ). n * length v.others) c.row_of.ensures in
    let number = c.loop-number.number in
    let slot = c.index-slots-number.result in
    let inside : number < length slots = omega (arith, c.loop-number-test.true, len) in
    let read : get_or slots number unused_slot ≡ shown slot = shown-at c.args.slots.now number slot (omega (arith, inside, len)) c.index-slots-number.is in
    let one : c.from-count.result ≡ cond (is_guest_of ip (get_or slots number unused_slot)) 1 0 =
    c.from-count.ensures ∙ ap from_bool c.is_guest_of.ensures ∙ one-if (is_guest_of ip (shown slot)) ∙ ap (λ (s : SlotState). cond (is_guest_of ip s) 1 0) (sym read) in
    let small = at-most-one (is_guest_of ip (get_or slots number unused_slot)) in
    let few = c.loop-number.invariant.few in
    let p = c.next_in_row-number-in-loop-number.ensures in
    let next = c.next_in_row-number-in-loop-number.result in
    let past = p.past in
    let within : next ≤ length slots = omega (arith, p.within, len) in
    record {
      within = omega (arith, within, len);
      counted = count-passed (is_guest_of ip) slots (number + 1) next (c.loop-number.count + c.from-count.result) past within
          (passed-none v slots ip first (length c.args.slots.now) (number + 1) next kept at (sym len) p)
          (count-one (is_guest_of ip) slots number c.loop-number.count c.from-count.result inside one c.loop-number.invariant.counted);
      few = omega (arith, few, one, small, past);
    }

pub returns : goal.returns
returns c = count-all (is_guest_of c.args.ip) (all_shown c.args.slots.now) c.loop-number.number c.loop-number.count (omega (arith, length-shown c.args.slots.now, c.loop-number-test.false)) c.loop-number.invariant.counted
