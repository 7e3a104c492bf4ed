use Rattle.std.proofs.Common.{◌≡◌, ◌<◌, ◌≤◌, ℕ, true, false, Bool, Option, None, List, length, get_or, slice_set, sym, ap, subst, ◌∙◌, arith}
use Rattle.std.proofs.lemmas.List.{length-set}
use Rattle.std.proofs.lemmas.Option.{get_or_from_slice_get}
use Rattle.enet_slot.specs.Giving.{unused_slot}
use Rattle.enet_slot.specs.Slot.{SlotState}
use Rattle.enet_slot.specs.Slotted.{shown, all_shown}
use Rattle.enet_slot.specs.Yielding.{yields}
use Rattle.enet_slot.proofs.Shown.{get-shown, length-shown}
use Rattle.enet_sleepers.specs.Unproved.{KeepsUnproved, Waiting}
use Rattle.enet_sleepers.specs.contracts.unproved.Unproved.{the_view}
use Rattle.enet_sleepers.proofs.Waited.{how_many, oldest-found, oldest-nowhere, forgotten-kept, one-less}
use Rattle.enet_sleepers.proofs.unproved.Unproved.oldest.Goals as goal

pub returns-then-yields-clause-oldest : goal.returns-then-yields-clause-oldest
returns-then-yields-clause-oldest c = λ now k.
    let slots = c.args.slots.now in
    let all = all_shown slots in
    let v = c.loop-place.self in
    let place = c.in-Some.place in
    let slot = c.index-slots-place.result in
    let found = c.in-Some.ensures.found in
    let kept = c.loop-place.invariant now k in
    let count : length v.since ≡ length all = kept.count in
    let within : place < length v.since = found.within in
    let inside : place < length all = omega (arith, within, count) in
    let inside' : place < length slots = omega (arith, inside, length-shown slots) in
    let read : get_or all place unused_slot ≡ shown slot = get_or_from_slice_get all place (shown slot) unused_slot (get-shown slots place slot inside' c.index-slots-place.is) in
    sym (oldest-found now c.args.generations v all place found.moment kept inside found.at found.least found.first
    (ap (λ (s : SlotState). yields c.args.generations s) read ∙ sym c.yields.ensures ∙ c.if-yields.true))

pub returns-then-yields-clause-within : goal.returns-then-yields-clause-within
returns-then-yields-clause-within c =
    let k = c.loop-place.invariant c.requires.0 c.requires.1 in
    let count : length c.loop-place.self.since ≡ length (all_shown c.args.slots.now) = k.count in
    let within : c.in-Some.place < length c.loop-place.self.since = c.in-Some.ensures.found.within in
    omega (arith, within, count, length-shown c.args.slots.now)

pub returns-then-yields-clause-kept : goal.returns-then-yields-clause-kept
returns-then-yields-clause-kept c = λ now k. c.loop-place.invariant now k

pub returns-clause-oldest : goal.returns-clause-oldest
returns-clause-oldest c = λ now k. sym (oldest-nowhere now c.args.generations c.loop-place.self (all_shown c.args.slots.now) (c.loop-place.invariant now k) c.in_default.ensures.none)

pub returns-clause-kept : goal.returns-clause-kept
returns-clause-kept c = λ now k. c.loop-place.invariant now k

pub clear-requires : goal.clear-requires
clear-requires c = subst (λ (v : Waiting). c.in-Some.place < length v.since) (sym c.self.view_is) c.in-Some.ensures.found.within

pub loop-place-preserved : goal.loop-place-preserved
loop-place-preserved c = λ now k.
    let slots = c.args.slots.now in
    let all = all_shown slots in
    let v = c.loop-place.self in
    let place = c.in-Some.place in
    let slot = c.index-slots-place.result in
    let kept = c.loop-place.invariant now k in
    let count : length v.since ≡ length all = kept.count in
    let within : place < length v.since = c.in-Some.ensures.found.within in
    let inside : place < length slots = omega (arith, within, count, length-shown slots) in
    let read : get_or all place unused_slot ≡ shown slot = get_or_from_slice_get all place (shown slot) unused_slot (get-shown slots place slot inside c.index-slots-place.is) in
    forgotten-kept now c.args.generations v (record (the_view c.self.inside) { since = c.clear.new.self }) all place
    (ap (λ (l : List (Option ℕ)). record (the_view c.self.inside) { since = l }) c.clear.ensures ∙ ap (λ (x : Waiting). record x { since = slice_set x.since place None }) c.self.view_is)
    (ap (λ (s : SlotState). yields c.args.generations s) read ∙ sym c.yields.ensures ∙ c.if-yields.false) kept

pub loop-place-smaller : goal.loop-place-smaller
loop-place-smaller c =
    let found = c.in-Some.ensures.found in
    subst (λ (l : List (Option ℕ)). how_many l < how_many c.loop-place.self.since) (sym (c.clear.ensures ∙ ap (λ (x : Waiting). slice_set x.since c.in-Some.place None) c.self.view_is))
    (one-less c.loop-place.self.since c.in-Some.place found.moment found.at)

pub invariant_of-self : goal.invariant_of-self
invariant_of-self c =
    let size : length c.clear.new.self ≡ length c.self.inside.since = ap (λ (l : List (Option ℕ)). length l) c.clear.ensures ∙ length-set c.self.inside.since c.in-Some.place None in
    let few : length c.self.inside.since ≤ 65535 = c.self.invariant.few in
    record { few = omega (arith, size, few); early = c.self.invariant.early }
