use Rattle.std.proofs.Common.{◌≡◌, ℕ, take}
use Rattle.std.specs.VecDeque.{deque_len}
use Rattle.slab.specs.Slab.{get}
use Rattle.enet_sender.specs.Pending.{times}
use Rattle.enet_sender.specs.Private.Rounds.{marked_at}
use Rattle.enet_sender.proofs.ring.mark_all.Given as goal

abbrev pub invariant-loop-place : goal.invariant-loop-place
invariant-loop-place l = record {
  changed : (key : ℕ) → get l.pending.slab key ≡ marked_at l.tick (times key (take l.place l.ring.items)) (get l.initial.pending.slab key);
  end : l.place-end ≡ deque_len l.ring;
}
