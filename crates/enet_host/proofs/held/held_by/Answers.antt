use Rattle.std.proofs.Common.{◌≤◌, length, List, ap, arith, refl, ◌∙◌}
use Rattle.std.proofs.lemmas.List.{take_all}
use Rattle.enet_slot.specs.declared.slot.Slot.{Slot}
use Rattle.enet_slot.specs.Slotted.{all_shown}
use Rattle.enet_host.specs.Held.{held_by}
use Rattle.enet_host.proofs.Adding.{held-more, little-done, little-more, within-done, within-more, nothing-within, nothing-little}
use Rattle.enet_host.proofs.held.held_by.Goals as goal

pub loop-slot-init : goal.loop-slot-init
loop-slot-init c = record { inside = omega arith; value = refl; little = nothing-little; bound = λ x y limited. nothing-within x y }

pub loop-slot-preserved : goal.loop-slot-preserved
loop-slot-preserved c =
    let so_far = c.loop-slot.invariant in
    record {
      inside = omega (arith, c.loop-slot-test.true);
      value = held-more c.args.slots.now c.loop-slot.slot-index c.slot-item.result c.loop-slot.total c.held.result c.together-total.result c.loop-slot-test.true c.slot-item.is so_far.value c.held.ensures.value c.together-total.ensures;
      little = little-more c.loop-slot.slot-index c.loop-slot.total c.held.result c.together-total.result so_far.little c.held.ensures.little c.together-total.ensures;
      bound = within-more c.args.slots.now c.loop-slot.slot-index c.slot-item.result c.loop-slot.total c.held.result c.together-total.result c.loop-slot-test.true c.slot-item.is c.held.ensures.bound c.together-total.ensures so_far.bound;
    }

pub returns-clause-value : goal.returns-clause-value
returns-clause-value c =
    c.loop-slot.invariant.value ∙ ap (λ (xs : List Slot). held_by (all_shown xs)) (take_all c.loop-slot.slot-index c.args.slots.now c.loop-slot-test.false)

pub returns-clause-little : goal.returns-clause-little
returns-clause-little c =
    let inside : c.loop-slot.slot-index ≤ length c.args.slots.now = c.loop-slot.invariant.inside in
    little-done c.loop-slot.slot-index c.loop-slot.total (omega (arith, inside, c.requires)) c.loop-slot.invariant.little

pub returns-clause-bound : goal.returns-clause-bound
returns-clause-bound c = λ x y limited. within-done c.loop-slot.slot-index (length c.args.slots.now) c.loop-slot.total x y c.loop-slot.invariant.inside (c.loop-slot.invariant.bound x y limited)
