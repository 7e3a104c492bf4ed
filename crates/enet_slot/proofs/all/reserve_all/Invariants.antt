use Rattle.std.proofs.Common.{◌≡◌, ◌<◌, ℕ, vec_len, get_or}
use Rattle.enet_slot.specs.declared.slot.Slot.{Slot}
use Rattle.enet_slot.specs.Slotted.{all_shown}
use Rattle.enet_slot.specs.Private.Slotted.{HasRoom}
use Rattle.enet_slot.proofs.all.reserve_all.Given as goal

abbrev pub invariant-loop-place : goal.invariant-loop-place
invariant-loop-place l = record {
  items : all_shown l.slots.items ≡ all_shown l.initial.slots.items;
  room : (k : ℕ) (x : Slot) → k < l.place → x ≡ get_or l.slots.items k x → HasRoom x;
  len : vec_len l.slots ≡ vec_len l.initial.slots;
  end : l.place-end ≡ vec_len l.initial.slots;
}
