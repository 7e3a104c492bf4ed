use Rattle.std.proofs.Common.{◌≡◌, length}
use Rattle.enet_slot.specs.Slotted.{all_shown}
use Rattle.enet_sleepers.proofs.Found.{AreFound}
use Rattle.enet_sleepers.proofs.seats.Seats.rekey.Given as goal

abbrev pub invariant-loop-number : goal.invariant-loop-number
invariant-loop-number l = record {
  count : length l.self.others ≡ length (all_shown l.slots);
  found : AreFound l.self (all_shown l.slots) l.number;
  end : l.number-end ≡ length l.slots;
}
