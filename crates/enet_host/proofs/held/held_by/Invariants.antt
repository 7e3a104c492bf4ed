use Rattle.std.proofs.Common.{◌≡◌, ℕ, ◌≤◌, length, take}
use Rattle.enet_peer.specs.Held.{most_of, IsWithin}
use Rattle.enet_slot.specs.Slotted.{all_shown}
use Rattle.enet_host.specs.Held.{AreLimited, held_by, times}
use Rattle.enet_host.specs.Private.Held.{IsLittleBy}
use Rattle.enet_host.proofs.held.held_by.Given as goal

abbrev pub invariant-loop-slot : goal.invariant-loop-slot
invariant-loop-slot l = record {
  inside : l.slot-index ≤ length l.slots;
  value : l.total ≡ held_by (all_shown (take l.slot-index l.slots));
  little : IsLittleBy l.slot-index l.total;
  bound : (x y : ℕ) → AreLimited x y (all_shown l.slots) → IsWithin l.total (times l.slot-index (most_of x y));
}
