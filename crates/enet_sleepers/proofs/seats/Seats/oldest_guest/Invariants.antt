use Rattle.std.proofs.Common.{◌-◌, ◌≤◌, length}
use Rattle.enet_slot.specs.Slotted.{all_shown}
use Rattle.enet_slot.specs.Yielding.{yields_to}
use Rattle.enet_sleepers.specs.Private.Guests.{IsOldestBefore}
use Rattle.enet_sleepers.proofs.Rows.{age_at, waits_at}
use Rattle.enet_sleepers.proofs.seats.Seats.oldest_guest.Given as goal

abbrev pub invariant-loop-number : goal.invariant-loop-number
invariant-loop-number l = record {
  within : l.number ≤ length l.slots;
  oldest : IsOldestBefore (waits_at (yields_to l.ip l.generations) (all_shown l.slots)) (age_at l.now (all_shown l.slots)) l.number l.oldest;
}

abbrev pub decreases-loop-number : goal.decreases-loop-number
decreases-loop-number l = length l.slots - l.number
