use Rattle.std.proofs.Common.{◌≡◌, ◌-◌, ◌<◌, ℕ, false, length, get_or}
use Rattle.enet_deadlines.specs.Sets.{IsIn}
use Rattle.enet_slot.specs.Giving.{unused_slot}
use Rattle.enet_slot.specs.Receiving.{is_connection}
use Rattle.enet_slot.specs.Slotted.{all_shown}
use Rattle.enet_sleepers.proofs.seats.known_in.Given as goal

abbrev pub invariant-loop-place : goal.invariant-loop-place
invariant-loop-place l = (i : ℕ) → i < l.place → IsIn l.set i → is_connection l.from l.connect_id (get_or (all_shown l.slots) i unused_slot) ≡ false

abbrev pub decreases-loop-place : goal.decreases-loop-place
decreases-loop-place l = length l.slots - l.place
