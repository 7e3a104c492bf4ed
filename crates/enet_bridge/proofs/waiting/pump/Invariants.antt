use Rattle.std.proofs.Common.{◌≡◌, ◌++◌}
use Rattle.std.specs.VecDeque.{deque_len}
use Rattle.enet_submit.specs.Words.{IsSeatOf, sent}
use Rattle.enet_bridge.specs.Ends.{orders}
use Rattle.enet_bridge.proofs.waiting.pump.Given as goal

abbrev pub invariant-loop-order : goal.invariant-loop-order
invariant-loop-order g l =
    IsSeatOf l.queue l.seat
    × (orders (sent l.seat) ++ l.waiting.items ≡ orders (sent l.fn.seat) ++ l.fn.waiting.items)

abbrev pub decreases-loop-order : goal.decreases-loop-order
decreases-loop-order g l = deque_len l.waiting
