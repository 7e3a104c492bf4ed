use Rattle.std.proofs.Common.{List, arith, sym, subst, ◌∙◌}
use Rattle.enet_codec.specs.declared.event.Received.{Received}
use Rattle.enet_codec.specs.declared.stop.Stop.TheVariants as stop
use Rattle.enet_host.specs.Private.Receiving.{OfferCredits}
use Rattle.enet_host.specs.Private.Receiving as credit
use Rattle.enet_host.specs.declared.credits.Credit.{Credit}
use Rattle.enet_host.specs.Receiving.{Listener, Offers, handled_one, refused, repeated, no_slot}
use Rattle.enet_slot.specs.declared.all.Seat.TheVariants.{Known, At, Full}
use Rattle.enet_slot.specs.declared.slot.Slot.{Slot}
use Rattle.enet_slot.specs.Giving.{basis_of}
use Rattle.enet_slot.specs.Slotted.{all_shown}
use Rattle.enet_sleepers.specs.Seating.{KeepsSeats}
use Rattle.enet_sleepers.specs.Sleeping.{KeepsSleepers}
use Rattle.enet_slot.proofs.Shown.{length-shown}
use Rattle.enet_host.proofs.Offering.{seat-in, answers-at, no-memory-at, credits-known}
use Rattle.enet_slot.specs.Slot.{SlotState}
use Rattle.enet_slot.proofs.Shown.{same-shown}
use Rattle.enet_sleepers.specs.Unproved.{KeepsUnproved}
use Rattle.enet_host.proofs.Sleeping.{keeps-woken-at}
use Rattle.enet_host.proofs.Seated.{seats-answered}
use Rattle.enet_host.proofs.Yielding.{unproved-noted}
use Rattle.enet_host.proofs.receiving.take_offer.Goals as goal

pub returns-in-Some-clause-offers : goal.returns-in-Some-clause-offers
returns-in-Some-clause-offers c =
    subst (λ (a : Received). Offers (record { basis = basis_of c.args.start.now; slots = all_shown c.args.slots.now.items }) c.args.from c.args.offer a (all_shown c.args.slots.now.items)) (sym c.stopped.ensures)
    (refused c.in-Some.why (sym c.offer_refused.ensures ∙ c.in-Some.is))

pub returns-in-Known-clause-offers : goal.returns-in-Known-clause-offers
returns-in-Known-clause-offers c =
    repeated (sym c.offer_refused.ensures ∙ c.in_default.is)
    (seat-in c.args.slots.now.items c.deref.result.now (basis_of c.args.start.now) c.args.from c.args.offer.connect_id c.find_seat.result (Known c.in-Known.place) c.find_seat.ensures.seat c.deref.ensures.value c.in-Known.is).0

pub returns-in-Full-clause-offers : goal.returns-in-Full-clause-offers
returns-in-Full-clause-offers c =
    let seat = seat-in c.args.slots.now.items c.deref.result.now (basis_of c.args.start.now) c.args.from c.args.offer.connect_id c.find_seat.result Full
    c.find_seat.ensures.seat c.deref.ensures.value c.in-Full.is in
    subst (λ (a : Received). Offers (record { basis = basis_of c.args.start.now; slots = all_shown c.args.slots.now.items }) c.args.from c.args.offer a (all_shown c.args.slots.now.items)) (sym c.stopped-in-Full.ensures)
    (no_slot (sym c.offer_refused.ensures ∙ c.in_default.is) seat.0 seat.1)

pub returns-in-Ok-clause-offers : goal.returns-in-Ok-clause-offers
returns-in-Ok-clause-offers c =
    let seat = seat-in c.args.slots.now.items c.deref.result.now (basis_of c.args.start.now) c.args.from c.args.offer.connect_id c.find_seat.result (At c.in-At.place)
    c.find_seat.ensures.seat c.deref.ensures.value c.in-At.is in
    answers-at (basis_of c.args.start.now) c.args.slots.now.items c.args.from c.args.offer c.in-At.place c.index_mut-slot.result.now c.answer.new.self
    (sym c.offer_refused.ensures ∙ c.in_default.is) seat.0 seat.1 (omega (arith, seat.2, length-shown c.args.slots.now.items)) c.index_mut-slot.ensures.value c.in-Ok.ensures.answers

pub returns-in-Err-clause-offers : goal.returns-in-Err-clause-offers
returns-in-Err-clause-offers c =
    let seat = seat-in c.args.slots.now.items c.deref.result.now (basis_of c.args.start.now) c.args.from c.args.offer.connect_id c.find_seat.result (At c.in-At.place)
    c.find_seat.ensures.seat c.deref.ensures.value c.in-At.is in
    no-memory-at (basis_of c.args.start.now) c.args.slots.now.items c.args.from c.args.offer c.in-At.place c.index_mut-slot.result.now c.answer.new.self
    c.stopped-in-Err.result (sym c.offer_refused.ensures ∙ c.in_default.is) seat.0 seat.1 c.index_mut-slot.ensures.value c.in-Err.ensures.unchanged c.stopped-in-Err.ensures

pub returns-in-Ok-clause-sleepers : goal.returns-in-Ok-clause-sleepers
returns-in-Ok-clause-sleepers c =
    let now = c.args.start.now.clock in
    let slots = c.args.slots.now.items in
    keeps-woken-at now c.in-At.place c.args.sleepers.now c.wake.new.self slots c.answer.new.self c.requires.sleepers c.wake.ensures.kept c.wake.ensures.awake

pub returns-in-Err-clause-sleepers : goal.returns-in-Err-clause-sleepers
returns-in-Err-clause-sleepers c =
    let now = c.args.start.now.clock in
    let slots = c.args.slots.now.items in
    keeps-woken-at now c.in-At.place c.args.sleepers.now c.wake.new.self slots c.answer.new.self c.requires.sleepers c.wake.ensures.kept c.wake.ensures.awake

pub find_seat-requires-clause-sleepers : goal.find_seat-requires-clause-sleepers
find_seat-requires-clause-sleepers c = subst (λ (xs : List Slot). KeepsSleepers c.args.start.now.clock c.args.sleepers.now (all_shown xs)) (sym c.deref.ensures.value) c.requires.sleepers

pub find_seat-requires-clause-unproved : goal.find_seat-requires-clause-unproved
find_seat-requires-clause-unproved c =
    subst (λ (xs : List Slot). KeepsUnproved c.args.start.now.clock c.args.start.now.config.generations c.args.unproved.now (all_shown xs)) (sym c.deref.ensures.value) c.requires.unproved

-- ---- where connections are found

pub find_seat-requires-clause-seats : goal.find_seat-requires-clause-seats
find_seat-requires-clause-seats c = subst (λ (xs : List Slot). KeepsSeats c.args.seats.now (all_shown xs)) (sym c.deref.ensures.value) c.requires.seats

pub enter-requires : goal.enter-requires
enter-requires c =
    let seat = seat-in c.args.slots.now.items c.deref.result.now (basis_of c.args.start.now) c.args.from c.args.offer.connect_id c.find_seat.result (At c.in-At.place)
    c.find_seat.ensures.seat c.deref.ensures.value c.in-At.is in
    omega (arith, seat.2, c.requires.seats.count)

pub returns-in-Err-clause-seats : goal.returns-in-Err-clause-seats
returns-in-Err-clause-seats c =
    subst (KeepsSeats c.args.seats.now) (sym (same-shown c.args.slots.now.items c.in-At.place c.index_mut-slot.result.now c.answer.new.self c.index_mut-slot.ensures.value c.in-Err.ensures.unchanged)) c.requires.seats

pub returns-in-Ok-clause-seats : goal.returns-in-Ok-clause-seats
returns-in-Ok-clause-seats c =
    seats-answered (basis_of c.args.start.now) c.args.slots.now.items c.args.from c.args.offer c.in-At.place c.index_mut-slot.result.now c.answer.new.self c.args.seats.now c.enter.new.self c.in-Ok.ensures.answers c.enter.ensures c.requires.seats

-- ---- who waits for a client

pub returns-in-Known-clause-unproved : goal.returns-in-Known-clause-unproved
returns-in-Known-clause-unproved c =
    subst (λ (xs : List Slot). KeepsUnproved c.args.start.now.clock c.args.start.now.config.generations c.find_seat.new.unproved (all_shown xs)) c.deref.ensures.value c.find_seat.ensures.unproved

pub returns-in-Full-clause-unproved : goal.returns-in-Full-clause-unproved
returns-in-Full-clause-unproved c =
    subst (λ (xs : List Slot). KeepsUnproved c.args.start.now.clock c.args.start.now.config.generations c.find_seat.new.unproved (all_shown xs)) c.deref.ensures.value c.find_seat.ensures.unproved

pub returns-in-Err-clause-unproved : goal.returns-in-Err-clause-unproved
returns-in-Err-clause-unproved c =
    let kept = subst (λ (xs : List Slot). KeepsUnproved c.args.start.now.clock c.args.start.now.config.generations c.find_seat.new.unproved (all_shown xs)) c.deref.ensures.value c.find_seat.ensures.unproved in
    subst (λ (ss : List SlotState). KeepsUnproved c.args.start.now.clock c.args.start.now.config.generations c.find_seat.new.unproved ss)
    (sym (same-shown c.args.slots.now.items c.in-At.place c.index_mut-slot.result.now c.answer.new.self c.index_mut-slot.ensures.value c.in-Err.ensures.unchanged)) kept

pub returns-in-Ok-clause-unproved : goal.returns-in-Ok-clause-unproved
returns-in-Ok-clause-unproved c =
    let seat = seat-in c.args.slots.now.items c.deref.result.now (basis_of c.args.start.now) c.args.from c.args.offer.connect_id c.find_seat.result (At c.in-At.place)
    c.find_seat.ensures.seat c.deref.ensures.value c.in-At.is in
    let kept = subst (λ (xs : List Slot). KeepsUnproved c.args.start.now.clock c.args.start.now.config.generations c.find_seat.new.unproved (all_shown xs)) c.deref.ensures.value c.find_seat.ensures.unproved in
    unproved-noted (basis_of c.args.start.now) c.args.slots.now.items c.args.from c.args.offer c.in-At.place c.index_mut-slot.result.now c.answer.new.self c.find_seat.new.unproved c.note.new.self
    (omega (arith, seat.2, length-shown c.args.slots.now.items)) c.in-Ok.ensures.answers c.note.ensures kept

-- ---- what counts

pub returns-in-Some-clause-credits : goal.returns-in-Some-clause-credits
returns-in-Some-clause-credits c = credit.refused c.in-Some.why c.args.credits.now.items (sym c.offer_refused.ensures ∙ c.in-Some.is) c.stopped.result

pub returns-in-Known-clause-credits : goal.returns-in-Known-clause-credits
returns-in-Known-clause-credits c =
    credits-known (record { basis = basis_of c.args.start.now; slots = all_shown c.args.slots.now.items }) c.args.from c.args.offer c.args.len c.in-Known.place
    c.args.credits.now.items c.count_offer.new.credits.items _ (sym c.offer_refused.ensures ∙ c.in_default.is)
    (seat-in c.args.slots.now.items c.deref.result.now (basis_of c.args.start.now) c.args.from c.args.offer.connect_id c.find_seat.result (Known c.in-Known.place) c.find_seat.ensures.seat c.deref.ensures.value c.in-Known.is)
    c.count_offer.ensures

pub returns-in-Full-clause-credits : goal.returns-in-Full-clause-credits
returns-in-Full-clause-credits c =
    let seat = seat-in c.args.slots.now.items c.deref.result.now (basis_of c.args.start.now) c.args.from c.args.offer.connect_id c.find_seat.result Full
    c.find_seat.ensures.seat c.deref.ensures.value c.in-Full.is in
    let h : Listener = record { basis = basis_of c.args.start.now; slots = all_shown c.args.slots.now.items } in
    subst (λ (a : Received). OfferCredits h c.args.from c.args.offer c.args.len a c.args.credits.now.items c.args.credits.now.items) (sym c.stopped-in-Full.ensures)
    (credit.unanswered stop.NoSlot c.args.credits.now.items seat.0)

pub returns-in-Err-clause-credits : goal.returns-in-Err-clause-credits
returns-in-Err-clause-credits c =
    let seat = seat-in c.args.slots.now.items c.deref.result.now (basis_of c.args.start.now) c.args.from c.args.offer.connect_id c.find_seat.result (At c.in-At.place)
    c.find_seat.ensures.seat c.deref.ensures.value c.in-At.is in
    let h : Listener = record { basis = basis_of c.args.start.now; slots = all_shown c.args.slots.now.items } in
    subst (λ (a : Received). OfferCredits h c.args.from c.args.offer c.args.len a c.args.credits.now.items c.args.credits.now.items) (sym c.stopped-in-Err.ensures)
    (credit.unanswered stop.Memory c.args.credits.now.items seat.0)

pub returns-in-Ok-clause-credits : goal.returns-in-Ok-clause-credits
returns-in-Ok-clause-credits c =
    let seat = seat-in c.args.slots.now.items c.deref.result.now (basis_of c.args.start.now) c.args.from c.args.offer.connect_id c.find_seat.result (At c.in-At.place)
    c.find_seat.ensures.seat c.deref.ensures.value c.in-At.is in
    let h : Listener = record { basis = basis_of c.args.start.now; slots = all_shown c.args.slots.now.items } in
    subst (λ (credits : List Credit). OfferCredits h c.args.from c.args.offer c.args.len handled_one c.args.credits.now.items credits) (sym c.count_offer-in-Ok.ensures)
    (credit.answered c.in-At.place c.args.credits.now.items seat.0 seat.1)
