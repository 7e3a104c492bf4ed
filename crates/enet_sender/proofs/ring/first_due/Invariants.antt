use Rattle.slab.specs.Slab.{get}
use Rattle.std.proofs.Common.{◌≡◌}
use Rattle.std.specs.VecDeque.{deque_len}
use Rattle.enet_sender.specs.Rings.{NoneDue}
use Rattle.enet_sender.proofs.ring.first_due.Given as goal

abbrev pub invariant-loop-place : goal.invariant-loop-place
invariant-loop-place l = record {
  none : NoneDue (get l.pending.slab) l.sent.items l.from l.place;
  end : l.place-end ≡ deque_len l.sent;
}
