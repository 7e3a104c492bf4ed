use Rattle.std.proofs.Common.{◌≡◌, ◌≤◌, ℕ, Option}
use Rattle.std.specs.VecDeque.{deque_len, deque_capacity}
use Rattle.enet_sender.specs.declared.sent.Sent.{Sent}
use Rattle.enet_sender.specs.Private.Trims.{Trims}
use Rattle.enet_sender.proofs.ring.trim.Given as goal

abbrev pub invariant-loop-sent : goal.invariant-loop-sent
invariant-loop-sent l = record {
  trims : (at : ℕ → Option Sent) → Trims at l.initial.sent.items l.initial.due_from l.sent.items l.due_from;
  len : deque_len l.sent ≤ deque_len l.initial.sent;
  capacity : deque_capacity l.sent ≡ deque_capacity l.initial.sent;
}

abbrev pub decreases-loop-sent : goal.decreases-loop-sent
decreases-loop-sent l = deque_len l.sent
