use Rattle.std.proofs.Common.{◌≡◌, ◌+◌, ◌*◌, ◌<◌, ℕ, Option, Some, length, get_or, sym, ap, subst, ◌∙◌, arith}
use Rattle.enet_slot.specs.Giving.{unused_slot}
use Rattle.enet_slot.specs.Slotted.{shown, all_shown}
use Rattle.enet_slot.specs.Yielding.{age, yields_to}
use Rattle.enet_slot.proofs.Shown.{length-shown}
use Rattle.enet_sleepers.specs.Places.{row_of}
use Rattle.enet_sleepers.specs.Seating.{Seating, KeepsSeats}
use Rattle.enet_sleepers.specs.Private.Guests.{IsOldestBefore}
use Rattle.enet_sleepers.specs.contracts.seats.Seats.{the_view}
use Rattle.enet_sleepers.proofs.Offered.{shown-at}
use Rattle.enet_sleepers.proofs.Rows.{age_at, oldest-none, oldest-passed, oldest-some, passed-none, waits_at, yields-none}
use Rattle.enet_sleepers.proofs.seats.Seats.oldest_guest.Goals as goal

pub loop-number-init : goal.loop-number-init
loop-number-init c =
    let slots = all_shown c.args.slots.now in
    let v = the_view c.self.inside in
    let ip = c.args.ip in
    let len = length-shown c.args.slots.now in
    let kept : KeepsSeats v slots = subst (λ (x : Seating). KeepsSeats x slots) (sym c.self.view_is) c.requires in
    let first = c.first_of_row-first.result in
    let at : first ≡ row_of v.key ip * length v.others = c.first_of_row-first.ensures.is ∙ ap (λ (n : ℕ). c.row_of.result * n) c.len.ensures ∙ ap (λ (n : ℕ). n * length v.others) c.row_of.ensures in
    let p = c.next_in_row-number.ensures in
    record {
      within = omega (arith, p.within, len);
      oldest = λ i low. yields-none ip c.args.generations (get_or slots i unused_slot)
          (passed-none v slots ip first (length c.args.slots.now) 0 c.next_in_row-number.result kept at (sym len) p i (omega arith) low);
    }

pub loop-number-preserved : goal.loop-number-preserved
loop-number-preserved c =
    let slots = all_shown c.args.slots.now in
    let v = the_view c.self.inside in
    let ip = c.args.ip in
    let len = length-shown c.args.slots.now in
    let kept : KeepsSeats v slots = subst (λ (x : Seating). KeepsSeats x slots) (sym c.self.view_is) c.requires in
    let first = c.first_of_row-first.result in
    let at : first ≡ row_of v.key ip * length v.others = c.first_of_row-first.ensures.is ∙ ap (λ (n : ℕ). c.row_of.result * n) c.len.ensures ∙ ap (λ (n : ℕ). n * length v.others) c.row_of.ensures in
    let number = c.loop-number.number in
    let slot = c.index-slots-number.result in
    let inside : number < length slots = omega (arith, c.loop-number-test.true, len) in
    let read : get_or slots number unused_slot ≡ shown slot = shown-at c.args.slots.now number slot (omega (arith, inside, len)) c.index-slots-number.is in
    let waits = waits_at (yields_to ip c.args.generations) slots in
    let ages = age_at c.args.now slots in
    let p = c.next_in_row-number-in-loop-number.ensures in
    let next = c.next_in_row-number-in-loop-number.result in
    record {
      within = omega (arith, p.within, len);
      oldest = oldest-passed waits ages (number + 1) next c.older-oldest.result p.past
          (λ i past low. yields-none ip c.args.generations (get_or slots i unused_slot) (passed-none v slots ip first (length c.args.slots.now) (number + 1) next kept at (sym len) p i past low))
          (c.older-oldest.ensures waits ages (ap (yields_to ip c.args.generations) read ∙ sym c.yields_to.ensures) (ap (age c.args.now) read ∙ sym c.age.ensures) c.loop-number.invariant.oldest);
    }

pub returns-in-Some-clause-oldest : goal.returns-in-Some-clause-oldest
returns-in-Some-clause-oldest c =
    let slots = all_shown c.args.slots.now in
    let len = length-shown c.args.slots.now in
    let waits = yields_to c.args.ip c.args.generations in
    let end = c.loop-number.number in
    let found : ℕ × ℕ = (c.in-Some.place, c.in-Some._long) in
    let before : IsOldestBefore (waits_at waits slots) (age_at c.args.now slots) end (Some found) =
    subst (λ (o : Option (ℕ × ℕ)). IsOldestBefore (waits_at waits slots) (age_at c.args.now slots) end o) c.in-Some.is c.loop-number.invariant.oldest in
    let low : c.in-Some.place < end = before.0 in
    sym (oldest-some waits c.args.now slots end found (omega (arith, len, c.loop-number-test.false)) (omega (arith, low, c.loop-number.invariant.within, len)) before)

pub returns-in-None-clause-oldest : goal.returns-in-None-clause-oldest
returns-in-None-clause-oldest c =
    let slots = all_shown c.args.slots.now in
    let len = length-shown c.args.slots.now in
    let waits = yields_to c.args.ip c.args.generations in
    let end = c.loop-number.number in
    sym (oldest-none waits c.args.now slots end (omega (arith, len, c.loop-number-test.false))
    (subst (λ (o : Option (ℕ × ℕ)). IsOldestBefore (waits_at waits slots) (age_at c.args.now slots) end o) c.in-None.is c.loop-number.invariant.oldest))
