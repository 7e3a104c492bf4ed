use Rattle.std.proofs.Common.{◌≡◌, ℕ, take}
use Rattle.std.specs.List.{list_any}
use Rattle.std.specs.VecDeque.{deque_len}
use Rattle.slab.specs.Slab.{get}
use Rattle.enet_rtt.specs.Clock.{HappensIn}
use Rattle.enet_sender.specs.Sender.{is_late}
use Rattle.enet_sender.specs.Private.Rounds.{test_at}
use Rattle.enet_sender.proofs.ring.next_late.Given as goal

abbrev pub invariant-loop-place : goal.invariant-loop-place
invariant-loop-place l = record {
  first : HappensIn (λ (later : ℕ). list_any (λ (key : ℕ). test_at (is_late later) (get l.pending.slab key)) (take l.place l.ring.items)) l.now l.wait;
  end : l.place-end ≡ deque_len l.ring;
}
