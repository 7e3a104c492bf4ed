use Rattle.std.proofs.Common.{◌≡◌, ℕ, take}
use Rattle.std.specs.List.{list_any}
use Rattle.std.specs.VecDeque.{deque_len}
use Rattle.enet_rtt.specs.Clock.{HappensIn}
use Rattle.enet_senders.specs.Controlling.{has_waited}
use Rattle.enet_senders.proofs.queue.next_waited.Given as goal

abbrev pub invariant-loop-place : goal.invariant-loop-place
invariant-loop-place l = record {
  first : HappensIn (λ (later : ℕ). list_any (has_waited l.ms later) (take l.place l.sent.items)) l.now l.wait;
  end : l.place-end ≡ deque_len l.sent;
}
