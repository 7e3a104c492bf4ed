use Rattle.std.proofs.Common.{◌+◌, List, refl, sym, subst, ◌∙◌, arith}
use Rattle.enet_slot.specs.declared.slot.Slot.{Slot}
use Rattle.enet_slot.specs.Slotted.{all_shown}
use Rattle.enet_sleepers.specs.Sleeping.{KeepsSleepers}
use Rattle.enet_host.specs.Serving.{served_of}
use Rattle.enet_slot.proofs.Shown.{length-shown}
use Rattle.enet_host.proofs.Asking.{none-asked, all-asked-more, all-passed, all-pass, gives-in-turn, still-there, name-slot}
use Rattle.enet_host.proofs.Sleeping.{keeps-passes, keeps-gives}
use Rattle.enet_host.proofs.emitting.emit.Goals as goal

pub loop-turn-init : goal.loop-turn-init
loop-turn-init c =
    let slots = all_shown c.args.slots.now.items in
    record {
      asked = all-passed c.args.now c.args.peers c.args.from 0 c.next_turn-turn.result c.args.sleepers.now slots slots (length-shown c.args.slots.now.items ∙ c.requires.all)
          c.requires.sleepers c.next_turn-turn.ensures.passed (omega arith) (none-asked c.args.now c.args.peers c.args.from slots slots refl);
      awake = c.next_turn-turn.ensures.awake;
      sleepers = c.requires.sleepers;
      count = refl;
    }

pub rest-requires-clause-kept : goal.rest-requires-clause-kept
rest-requires-clause-kept c =
    subst (λ (xs : List Slot). KeepsSleepers c.args.now c.loop-turn.sleepers (all_shown xs)) (sym c.deref.ensures.value)
    (keeps-gives c.args.now c.args.now c.slot_of_turn-number.result (served_of c.in-Some.sent c.emit_from.new.buf) c.loop-turn.sleepers
    (all_shown c.loop-turn.slots.items) (all_shown c.emit_from.new.slots.items) c.loop-turn.invariant.sleepers
    (c.loop-turn.invariant.awake c.slot_of_turn-number.result c.slot_of_turn-number.ensures.within c.slot_of_turn-number.ensures.place) c.in-Some.ensures.gives)

pub rest-requires-in-loop-turn-clause-kept : goal.rest-requires-in-loop-turn-clause-kept
rest-requires-in-loop-turn-clause-kept c =
    subst (λ (xs : List Slot). KeepsSleepers c.args.now c.loop-turn.sleepers (all_shown xs)) (sym c.deref-in-loop-turn.ensures.value)
    (keeps-passes c.args.now c.args.now c.slot_of_turn-number.result c.loop-turn.sleepers (all_shown c.loop-turn.slots.items) (all_shown c.emit_from.new.slots.items)
    c.loop-turn.invariant.sleepers (c.loop-turn.invariant.awake c.slot_of_turn-number.result c.slot_of_turn-number.ensures.within c.slot_of_turn-number.ensures.place) c.in_default.ensures.passes)

pub loop-turn-preserved : goal.loop-turn-preserved
loop-turn-preserved c =
    let first = all_shown c.args.slots.now.items in
    let slots = all_shown c.loop-turn.slots.items in
    let after = all_shown c.emit_from.new.slots.items in
    let count = length-shown c.args.slots.now.items ∙ c.requires.all in
    let inside = c.slot_of_turn-number.ensures.within in
    let place = c.slot_of_turn-number.ensures.place in
    let turn = c.loop-turn.turn in
    let asked = all-asked-more c.args.now c.args.peers c.args.from turn c.slot_of_turn-number.result first slots after c.requires.within count inside place
    c.loop-turn.invariant.asked c.in_default.ensures.passes in
    let kept = subst (λ (xs : List Slot). KeepsSleepers c.args.now c.rest-in-loop-turn.new.self (all_shown xs)) c.deref-in-loop-turn.ensures.value c.rest-in-loop-turn.ensures in
    record {
      asked = all-passed c.args.now c.args.peers c.args.from (turn + 1) c.next_turn-turn-in-loop-turn.result c.rest-in-loop-turn.new.self first after count
          kept c.next_turn-turn-in-loop-turn.ensures.passed c.next_turn-turn-in-loop-turn.ensures.later asked;
      awake = c.next_turn-turn-in-loop-turn.ensures.awake;
      sleepers = kept;
      count = c.emit_from.ensures.count ∙ c.loop-turn.invariant.count;
    }

pub returns-in-Some-clause-gives : goal.returns-in-Some-clause-gives
returns-in-Some-clause-gives c =
    let inside = c.slot_of_turn-number.ensures.within in
    let place = c.slot_of_turn-number.ensures.place in
    let count = length-shown c.args.slots.now.items ∙ c.requires.all in
    let gives = c.in-Some.ensures.gives in
    gives-in-turn c.args.now c.args.peers c.args.from c.loop-turn.turn c.slot_of_turn-number.result (served_of c.in-Some.sent c.emit_from.new.buf)
    (all_shown c.args.slots.now.items) (all_shown c.loop-turn.slots.items) (all_shown c.emit_from.new.slots.items) c.requires.within count inside place c.loop-turn.invariant.asked
    (length-shown c.emit_from.new.slots.items ∙ c.emit_from.ensures.count ∙ c.loop-turn.invariant.count ∙ sym (length-shown c.args.slots.now.items)) gives
    (still-there c.args.now c.args.peers c.args.from c.loop-turn.turn c.slot_of_turn-number.result (all_shown c.args.slots.now.items) (all_shown c.loop-turn.slots.items) gives.slot count inside place
    c.loop-turn.invariant.asked gives.there) (name-slot c.in-Some.sent.0 c.slot_of_turn-number.result gives.slot gives.named)

pub returns-in-Some-clause-sleepers : goal.returns-in-Some-clause-sleepers
returns-in-Some-clause-sleepers c = subst (λ (xs : List Slot). KeepsSleepers c.args.now c.rest.new.self (all_shown xs)) c.deref.ensures.value c.rest.ensures

pub returns-clause-passes : goal.returns-clause-passes
returns-clause-passes c =
    all-pass c.args.now c.args.peers c.args.from c.loop-turn.turn (all_shown c.args.slots.now.items) (all_shown c.loop-turn.slots.items) c.requires.within
    (length-shown c.args.slots.now.items ∙ c.requires.all)
    (length-shown c.loop-turn.slots.items ∙ c.loop-turn.invariant.count ∙ sym (length-shown c.args.slots.now.items)) c.loop-turn-test.false c.loop-turn.invariant.asked
