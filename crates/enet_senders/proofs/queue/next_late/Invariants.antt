use Rattle.std.proofs.Common.{◌≡◌, ℕ, take}
use Rattle.std.specs.List.{list_any}
use Rattle.std.specs.VecDeque.{deque_len}
use Rattle.enet_rtt.specs.Clock.{HappensIn}
use Rattle.enet_senders.specs.Controlling.{is_late}
use Rattle.enet_senders.proofs.queue.next_late.Given as goal

abbrev pub invariant-loop-place : goal.invariant-loop-place
invariant-loop-place l = record {
  first : HappensIn (λ (later : ℕ). list_any (is_late later) (take l.place l.sent.items)) l.now l.wait;
  end : l.place-end ≡ deque_len l.sent;
}
