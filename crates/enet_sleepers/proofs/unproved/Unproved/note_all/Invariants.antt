use Rattle.std.proofs.Common.{◌≡◌, ℕ, ◌+◌, ◌^◌, ◌<◌, Some, length, slice_get}
use Rattle.enet_peer.specs.Peering.{Peering}
use Rattle.enet_slot.specs.Slot.{SlotState}
use Rattle.enet_slot.specs.Slotted.{all_shown}
use Rattle.enet_sleepers.specs.Private.Unproved.{AreNoted}
use Rattle.enet_sleepers.proofs.unproved.Unproved.note_all.Given as goal

abbrev pub invariant-loop-number : goal.invariant-loop-number
invariant-loop-number l = record {
  count : length l.self.since ≡ length l.slots;
  end : l.number-end ≡ length l.slots;
  clock : l.self.clock ≡ 4294967296 + l.now;
  noted : AreNoted l.self.clock l.now l.self.since (all_shown l.slots) l.number;
  low : (i : ℕ) (s : SlotState) (p : Peering) → i < l.number → slice_get (all_shown l.slots) i ≡ Some s → s.peer ≡ Some p → p.made < 2 ^ 32;
}
