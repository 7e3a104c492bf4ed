use Rattle.std.proofs.Common.{◌≡◌, ℕ, take}
use Rattle.std.specs.List.{count_by}
use Rattle.std.specs.VecDeque.{deque_len}
use Rattle.slab.specs.Slab.{get}
use Rattle.enet_sender.specs.Counting.{added, is_sent_again}
use Rattle.enet_sender.specs.Private.Rounds.{test_at}
use Rattle.enet_sender.proofs.tally.count_sent_again.Given as goal

abbrev pub invariant-loop-place : goal.invariant-loop-place
invariant-loop-place l = record {
  counted : l.total ≡ added l.so_far (count_by (λ (key : ℕ). test_at is_sent_again (get l.pending.slab key)) (take l.place l.ring.items));
  end : l.place-end ≡ deque_len l.ring;
}
