use Rattle.std.proofs.Common.{◌≡◌, take}
use Rattle.enet_slot.specs.Slotted.{all_shown}
use Rattle.enet_slot.specs.Yielding.{longest_of, yields_to}
use Rattle.enet_slot.proofs.guests.longest_guest.Given as goal

abbrev pub invariant-loop-slot : goal.invariant-loop-slot
invariant-loop-slot l = l.longest ≡ longest_of (yields_to l.ip l.generations) l.now (all_shown (take l.slot-index l.slots))
