use Rattle.std.proofs.Common.{◌≡◌, ℕ, max, ap, ap₂, sym, ◌∙◌, List}
use Rattle.std.proofs.lemmas.List.{take_all}
use Rattle.enet_slot.specs.declared.slot.Slot.{Slot}
use Rattle.enet_slot.specs.Slotted.{all_shown}
use Rattle.enet_slot.specs.Yielding.{longest_of, yields_to}
use Rattle.enet_slot.proofs.Longest.{longest-more}
use Rattle.enet_slot.proofs.guests.longest_guest.Goals as goal

pub loop-slot-preserved : goal.loop-slot-preserved
loop-slot-preserved c =
    c.max-longest.ensures
    ∙ ap₂ (λ (a b : ℕ). max a b) c.loop-slot.invariant c.age_to.ensures
    ∙ sym (longest-more (yields_to c.args.ip c.args.generations) c.args.now c.args.slots.now c.loop-slot.slot-index c.slot-item.result c.loop-slot-test.true c.slot-item.is)

pub returns : goal.returns
returns c = c.loop-slot.invariant ∙ ap (λ (xs : List Slot). longest_of (yields_to c.args.ip c.args.generations) c.args.now (all_shown xs)) (take_all c.loop-slot.slot-index c.args.slots.now c.loop-slot-test.false)
