use Rattle.std.proofs.Common.{◌<◌, List, length, arith, refl, sym, subst}
use Rattle.enet_codec.specs.declared.event.Received.{Received}
use Rattle.enet_host.specs.Receiving.{Arrives, unreadable, no_offer, offered, turned_away}
use Rattle.enet_host.specs.Receiving as receiving
use Rattle.enet_slot.specs.declared.slot.Slot.{Slot}
use Rattle.enet_slot.specs.Giving.{basis_of}
use Rattle.enet_slot.specs.Slotted.{shown, all_shown}
use Rattle.enet_slot.proofs.Shown.{get-shown, set-shown}
use Rattle.enet_host.proofs.Receptions.{refused-in, refuses-in, held-at, heard-at, keeps-heard, credits-heard, credits-offered}
use Rattle.enet_host.proofs.Limits.{heard-noted}
use Rattle.enet_sleepers.specs.Seating.{KeepsSeats}
use Rattle.enet_sleepers.specs.Sleeping.{KeepsOthers}
use Rattle.enet_sleepers.specs.Unproved.{KeepsUnproved}
use Rattle.enet_host.proofs.receiving.receive.Goals as goal

pub returns-in-Err-clause-arrives : goal.returns-in-Err-clause-arrives
returns-in-Err-clause-arrives c =
    subst (λ (a : Received). Arrives (record { basis = basis_of c.args.start.now; slots = all_shown c.args.slots.now.items }) c.args.from c.args.bytes.now a (all_shown c.args.slots.now.items)) (sym c.stopped.ensures)
    (unreadable c.in-Err.why c.in-Err.ensures.refused)

pub returns-in-Some-clause-arrives : goal.returns-in-Some-clause-arrives
returns-in-Some-clause-arrives c =
    offered c.in-Ok.found.0 c.in-Ok.found.1.now c.in-Some.offer c.take_offer.result _ c.in-Ok.ensures.read c.if-header-eq-NO_PEER.true c.in-Some.ensures.offer
    c.take_offer.ensures.offers

pub returns-in-None-clause-arrives : goal.returns-in-None-clause-arrives
returns-in-None-clause-arrives c =
    subst (λ (a : Received). Arrives (record { basis = basis_of c.args.start.now; slots = all_shown c.args.slots.now.items }) c.args.from c.args.bytes.now a (all_shown c.args.slots.now.items)) (sym c.stopped-in-None.ensures)
    (no_offer c.in-Ok.found.0 c.in-Ok.found.1.now c.in-Ok.ensures.read c.if-header-eq-NO_PEER.true c.in-None.ensures.none)

pub returns-in-Some-refusal-clause-arrives : goal.returns-in-Some-refusal-clause-arrives
returns-in-Some-refusal-clause-arrives c =
    subst (λ (a : Received). Arrives (record { basis = basis_of c.args.start.now; slots = all_shown c.args.slots.now.items }) c.args.from c.args.bytes.now a (all_shown c.args.slots.now.items)) (sym c.stopped-in-Some-refusal.ensures)
    (turned_away c.in-Ok.found.0 c.in-Ok.found.1.now c.in-Some-refusal.why c.in-Ok.ensures.read c.if-header-eq-NO_PEER.false
    (refused-in c.args.slots.now.items c.deref.result.now c.args.from c.in-Ok.found.0 _ _ c.refused_by-refusal.ensures.stop c.deref.ensures.value c.in-Some-refusal.is))

pub hear-requires-clause-others : goal.hear-requires-clause-others
hear-requires-clause-others c =
    subst (λ (xs : List Slot). KeepsOthers c.args.start.now.clock c.from-number.result c.args.sleepers.now (all_shown xs)) (sym c.deref-3.ensures.value)
    (keeps-heard c.args.start.now.clock c.from-number.result c.args.sleepers.now c.args.slots.now.items c.receive-answer.new.self c.requires.sleepers)

pub returns-clause-arrives : goal.returns-clause-arrives
returns-clause-arrives c =
    heard-at (basis_of c.args.start.now) c.args.slots.now.items c.args.from c.args.bytes.now c.in-Ok.found.0 c.in-Ok.found.1.now c.from-number.result c.index_mut.result.now
    c.receive-answer.new.self c.receive-answer.result c.refuses_by-full.result c.in-Ok.ensures.read c.if-header-eq-NO_PEER.false
    (refused-in c.args.slots.now.items c.deref.result.now c.args.from c.in-Ok.found.0 _ _ c.refused_by-refusal.ensures.stop c.deref.ensures.value c.in_default.is) c.from-number.ensures
    (let within = c.in_default.ensures.within in let len = c.deref.ensures.len in let e = c.from-number.ensures in grind (arith, within, len, e)) c.index_mut.ensures.value
    (refuses-in (basis_of c.args.start.now) c.args.slots.now.items c.deref-2.result.now c.from-number.result c.index_mut.result.now c.in-Ok.found.1.now c.refuses_by-full.result c.refuses_by-full.ensures c.deref-2.ensures.value
    (let within = c.in_default.ensures.within in let len = c.deref.ensures.len in let e = c.from-number.ensures in grind (arith, within, len, e)) c.index_mut.ensures.value)
    c.receive-answer.ensures.receives

pub returns-clause-unproved : goal.returns-clause-unproved
returns-clause-unproved c =
    let xs = c.args.slots.now.items in
    let x = c.index_mut.result.now in
    let n = c.from-number.result in
    let inside : n < length xs = (let within = c.in_default.ensures.within in let len = c.deref.ensures.len in let e = c.from-number.ensures in grind (arith, within, len, e)) in
    let fine = refused-in xs c.deref.result.now c.args.from c.in-Ok.found.0 _ _ c.refused_by-refusal.ensures.stop c.deref.ensures.value c.in_default.is in
    subst (KeepsUnproved c.args.start.now.clock c.args.start.now.config.generations c.args.unproved.now) (sym (set-shown xs n c.receive-answer.new.self))
    (heard-noted c.args.start.now.clock c.args.start.now.config.generations n c.args.unproved.now c.args.seats.now (all_shown xs) (shown x) (shown c.receive-answer.new.self)
    (record { now = c.args.start.now.clock; sent = c.in-Ok.found.0.sent; full = c.refuses_by-full.result }) c.in-Ok.found.1.now c.receive-answer.result
    (get-shown xs n x inside c.index_mut.ensures.value) (c.receive-answer.ensures.receives (held-at xs c.args.from c.in-Ok.found.0 n x fine c.from-number.ensures inside c.index_mut.ensures.value)) c.requires.unproved c.requires.seats).0

pub returns-clause-seats : goal.returns-clause-seats
returns-clause-seats c =
    let xs = c.args.slots.now.items in
    let x = c.index_mut.result.now in
    let n = c.from-number.result in
    let inside : n < length xs = (let within = c.in_default.ensures.within in let len = c.deref.ensures.len in let e = c.from-number.ensures in grind (arith, within, len, e)) in
    let fine = refused-in xs c.deref.result.now c.args.from c.in-Ok.found.0 _ _ c.refused_by-refusal.ensures.stop c.deref.ensures.value c.in_default.is in
    subst (KeepsSeats c.args.seats.now) (sym (set-shown xs n c.receive-answer.new.self))
    (heard-noted c.args.start.now.clock c.args.start.now.config.generations n c.args.unproved.now c.args.seats.now (all_shown xs) (shown x) (shown c.receive-answer.new.self)
    (record { now = c.args.start.now.clock; sent = c.in-Ok.found.0.sent; full = c.refuses_by-full.result }) c.in-Ok.found.1.now c.receive-answer.result
    (get-shown xs n x inside c.index_mut.ensures.value) (c.receive-answer.ensures.receives (held-at xs c.args.from c.in-Ok.found.0 n x fine c.from-number.ensures inside c.index_mut.ensures.value)) c.requires.unproved c.requires.seats).1

-- ---- what counts

pub returns-in-Err-clause-credits : goal.returns-in-Err-clause-credits
returns-in-Err-clause-credits c = record { counted = receiving.Nowhere; counts = receiving.unreadable c.in-Err.why c.in-Err.ensures.refused c.stopped.result; after = refl }

pub returns-in-Some-clause-credits : goal.returns-in-Some-clause-credits
returns-in-Some-clause-credits c =
    credits-offered (record { basis = basis_of c.args.start.now; slots = all_shown c.args.slots.now.items }) c.args.from c.args.bytes.now c.in-Ok.found.0 c.in-Ok.found.1.now c.in-Some.offer (length c.args.bytes.now)
    c.take_offer.result c.args.credits.now.items c.take_offer.new.credits.items c.in-Ok.ensures.read c.if-header-eq-NO_PEER.true c.in-Some.ensures.offer refl c.take_offer.ensures.credits

pub returns-in-None-clause-credits : goal.returns-in-None-clause-credits
returns-in-None-clause-credits c = record {
  counted = receiving.Nowhere;
  counts = receiving.no_offer c.in-Ok.found.0 c.in-Ok.found.1.now c.in-Ok.ensures.read c.if-header-eq-NO_PEER.true c.in-None.ensures.none c.stopped-in-None.result;
  after = refl;
}

pub returns-in-Some-refusal-clause-credits : goal.returns-in-Some-refusal-clause-credits
returns-in-Some-refusal-clause-credits c =
    credits-heard (record { basis = basis_of c.args.start.now; slots = all_shown c.args.slots.now.items }) c.args.from c.args.bytes.now c.in-Ok.found.0 c.in-Ok.found.1.now c.from-number.result (length c.args.bytes.now)
    c.refused_by-refusal.result c.stopped-in-Some-refusal.result c.args.credits.now.items c.count_heard.new.credits.items c.in-Ok.ensures.read c.if-header-eq-NO_PEER.false
    (refused-in c.args.slots.now.items c.deref.result.now c.args.from c.in-Ok.found.0 _ _ c.refused_by-refusal.ensures.stop c.deref.ensures.value refl) c.from-number.ensures refl c.count_heard.ensures

pub returns-clause-credits : goal.returns-clause-credits
returns-clause-credits c =
    credits-heard (record { basis = basis_of c.args.start.now; slots = all_shown c.args.slots.now.items }) c.args.from c.args.bytes.now c.in-Ok.found.0 c.in-Ok.found.1.now c.from-number.result (length c.args.bytes.now)
    c.refused_by-refusal.result c.receive-answer.result c.args.credits.now.items c.count_heard.new.credits.items c.in-Ok.ensures.read c.if-header-eq-NO_PEER.false
    (refused-in c.args.slots.now.items c.deref.result.now c.args.from c.in-Ok.found.0 _ _ c.refused_by-refusal.ensures.stop c.deref.ensures.value refl) c.from-number.ensures refl c.count_heard.ensures
