use Rattle.std.proofs.Common.{◌+◌, ◌<◌, length, arith, sym, ◌∙◌}
use Rattle.enet_slot.specs.Calls.{tells}
use Rattle.enet_slot.specs.Slotted.{shown, all_shown}
use Rattle.enet_slot.proofs.Shown.{length-shown}
use Rattle.enet_host.proofs.Asking.{none-more, none-passed, none-at-all, is-first}
use Rattle.enet_host.proofs.Serving.{at-number}
use Rattle.enet_host.proofs.events.first_telling.Goals as goal

pub loop-turn-init : goal.loop-turn-init
loop-turn-init c = record {
  before = none-passed (all_shown c.args.slots.now) c.requires.sleepers.0 c.args.peers c.args.from 0 c.next_turn-turn.result c.args.sleepers.now (length-shown c.args.slots.now ∙ sym c.requires.all)
      c.requires.sleepers.1 c.next_turn-turn.ensures.passed (λ j s there less. absurd (omega (arith, less)));
  awake = c.next_turn-turn.ensures.awake;
}

pub loop-turn-preserved : goal.loop-turn-preserved
loop-turn-preserved c =
    let place = c.slot_of_turn-number.ensures.place in
    let inside = c.slot_of_turn-number.ensures.within in
    let all = c.requires.all in
    let count = length-shown c.args.slots.now ∙ sym all in
    let e = c.from.ensures in
    let within : c.from.result < length c.args.slots.now = grind (arith, inside, all, e) in
    let none = none-more tells (all_shown c.args.slots.now) c.args.peers c.args.from c.loop-turn.turn c.slot_of_turn-number.result (shown c.index-slots-from.result) c.requires.within
    count inside place c.loop-turn.invariant.before
    (at-number c.args.slots.now c.from.result c.slot_of_turn-number.result c.index-slots-from.result e within c.index-slots-from.is) (sym c.tells.ensures ∙ c.if-tells.false) in
    record {
      before = none-passed (all_shown c.args.slots.now) c.requires.sleepers.0 c.args.peers c.args.from (c.loop-turn.turn + 1) c.next_turn-turn-in-loop-turn.result c.args.sleepers.now count c.requires.sleepers.1
          c.next_turn-turn-in-loop-turn.ensures.passed none;
      awake = c.next_turn-turn-in-loop-turn.ensures.awake;
    }

pub returns-then-tells-clause-first : goal.returns-then-tells-clause-first
returns-then-tells-clause-first c =
    let place = c.slot_of_turn-number.ensures.place in
    let inside = c.slot_of_turn-number.ensures.within in
    let all = c.requires.all in
    let e = c.from.ensures in
    let within : c.from.result < length c.args.slots.now = grind (arith, inside, all, e) in
    is-first tells (all_shown c.args.slots.now) c.args.peers c.args.from c.loop-turn.turn c.slot_of_turn-number.result (shown c.index-slots-from.result)
    (length-shown c.args.slots.now ∙ sym all) place c.loop-turn.invariant.before
    (at-number c.args.slots.now c.from.result c.slot_of_turn-number.result c.index-slots-from.result e within c.index-slots-from.is) (sym c.tells.ensures ∙ c.if-tells.true)

pub returns-clause-none : goal.returns-clause-none
returns-clause-none c =
    none-at-all tells (all_shown c.args.slots.now) c.args.peers c.args.from c.loop-turn.turn c.requires.within (length-shown c.args.slots.now ∙ sym c.requires.all)
    c.loop-turn-test.false c.loop-turn.invariant.before
