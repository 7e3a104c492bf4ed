use Rattle.std.proofs.Common.{◌≡◌, ◌≤◌, take}
use Rattle.std.specs.List.{count_by}
use Rattle.enet_slot.specs.Yielding.{is_guest_of}
use Rattle.enet_slot.specs.Slotted.{all_shown}
use Rattle.enet_slot.proofs.guests.count_guests.Given as goal

abbrev pub invariant-loop-slot : goal.invariant-loop-slot
invariant-loop-slot l = record {
  counted : l.count ≡ count_by (is_guest_of l.ip) (all_shown (take l.slot-index l.slots));
  few : l.count ≤ l.slot-index;
}
