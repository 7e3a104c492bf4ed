use Rattle.std.proofs.Common.{◌≡◌, ◌<◌, ℕ, ◌&&◌, nat_le, Option, IfSome, List, length, sym, ap, subst, ◌∙◌}
use Rattle.std.specs.List.{position}
use Rattle.enet_slot.specs.Slot.{SlotState}
use Rattle.enet_slot.specs.Slotted.{all_shown}
use Rattle.enet_slot.specs.Yielding.{age, yields_to}
use Rattle.enet_slot.proofs.Longest.{found-within}
use Rattle.enet_slot.proofs.Shown.{length-shown, position-shown}
use Rattle.enet_slot.proofs.guests.oldest_guest.Goals as goal

pub returns-clause-oldest : goal.returns-clause-oldest
returns-clause-oldest c =
    c.guest_as_old.ensures
    ∙ position-shown (λ (s : SlotState). yields_to c.args.ip c.args.generations s && nat_le c.longest_guest-longest.result (age c.args.now s)) c.args.slots.now
    ∙ ap (λ (n : ℕ). position (λ (s : SlotState). yields_to c.args.ip c.args.generations s && nat_le n (age c.args.now s)) (all_shown c.args.slots.now)) c.longest_guest-longest.ensures

pub returns-clause-within : goal.returns-clause-within
returns-clause-within c =
    subst (λ (n : ℕ). IfSome c.guest_as_old.result (λ i. i < n)) (length-shown c.args.slots.now)
    (found-within (λ (s : SlotState). yields_to c.args.ip c.args.generations s && nat_le c.longest_guest-longest.result (age c.args.now s)) (all_shown c.args.slots.now) c.guest_as_old.result
    (c.guest_as_old.ensures ∙ position-shown (λ (s : SlotState). yields_to c.args.ip c.args.generations s && nat_le c.longest_guest-longest.result (age c.args.now s)) c.args.slots.now))
