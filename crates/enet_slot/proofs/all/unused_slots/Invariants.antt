use Rattle.std.proofs.Common.{◌≡◌, replicate, vec_len, vec_capacity}
use Rattle.enet_slot.specs.Giving.{unused_slot}
use Rattle.enet_slot.specs.Slotted.{all_shown}
use Rattle.enet_slot.proofs.all.unused_slots.Given as goal

abbrev pub invariant-loop-slot : goal.invariant-loop-slot
invariant-loop-slot l = record {
  items : all_shown l.slots.items ≡ replicate l._slot unused_slot;
  len : vec_len l.slots ≡ l._slot;
  capacity : vec_capacity l.slots ≡ l.count;
}
