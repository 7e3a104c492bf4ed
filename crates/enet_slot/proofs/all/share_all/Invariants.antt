use Rattle.std.proofs.Common.{◌≡◌, ◌++◌, map, take, drop, vec_len}
use Rattle.enet_slot.specs.Sharing.{shared}
use Rattle.enet_slot.specs.Slotted.{all_shown}
use Rattle.enet_slot.proofs.all.share_all.Given as goal

abbrev pub invariant-loop-place : goal.invariant-loop-place
invariant-loop-place l = record {
  items : all_shown l.slots.items ≡ map (shared l.outgoing l.standing) (take l.place (all_shown l.initial.slots.items)) ++ drop l.place (all_shown l.initial.slots.items);
  len : vec_len l.slots ≡ vec_len l.initial.slots;
  end : l.place-end ≡ vec_len l.initial.slots;
}
