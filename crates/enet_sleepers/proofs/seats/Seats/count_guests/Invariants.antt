use Rattle.std.proofs.Common.{◌≡◌, ◌-◌, ◌≤◌, length, take}
use Rattle.std.specs.List.{count_by}
use Rattle.enet_slot.specs.Slotted.{all_shown}
use Rattle.enet_slot.specs.Yielding.{is_guest_of}
use Rattle.enet_sleepers.proofs.seats.Seats.count_guests.Given as goal

abbrev pub invariant-loop-number : goal.invariant-loop-number
invariant-loop-number l = record {
  within : l.number ≤ length l.slots;
  counted : l.count ≡ count_by (is_guest_of l.ip) (take l.number (all_shown l.slots));
  few : l.count ≤ l.number;
}

abbrev pub decreases-loop-number : goal.decreases-loop-number
decreases-loop-number l = length l.slots - l.number
