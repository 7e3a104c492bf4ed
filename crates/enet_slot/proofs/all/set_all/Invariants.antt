use Rattle.std.proofs.Common.{◌≡◌, ◌≤◌, ℕ, ◌++◌, map, take, drop, vec_len, get_or}
use Rattle.enet_peer.specs.Peering.{Peering}
use Rattle.enet_peer.specs.Calls as peers
use Rattle.enet_slot.specs.declared.slot.Slot.{Slot}
use Rattle.enet_slot.specs.Slot.{changed}
use Rattle.enet_slot.specs.Slotted.{all_shown}
use Rattle.enet_slot.proofs.all.set_all.Given as goal

abbrev pub invariant-loop-place : goal.invariant-loop-place
invariant-loop-place l = record {
  items : all_shown l.slots.items ≡ map (changed (λ (p : Peering). peers.with_bandwidth p l.incoming l.outgoing)) (take l.place (all_shown l.initial.slots.items)) ++ drop l.place (all_shown l.initial.slots.items);
  later : (k : ℕ) (x : Slot) → l.place ≤ k → get_or l.slots.items k x ≡ get_or l.initial.slots.items k x;
  len : vec_len l.slots ≡ vec_len l.initial.slots;
  end : l.place-end ≡ vec_len l.initial.slots;
}
