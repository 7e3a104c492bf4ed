use Rattle.std.proofs.Common.{◌≡◌, take}
use Rattle.std.specs.List.{count_by}
use Rattle.std.specs.VecDeque.{deque_len}
use Rattle.enet_sender.specs.Counting.{added}
use Rattle.enet_senders.specs.Counting.{is_sent_again}
use Rattle.enet_senders.proofs.queue.count_sent_again.Given as goal

abbrev pub invariant-loop-place : goal.invariant-loop-place
invariant-loop-place l = record {
  counted : l.total ≡ added l.so_far (count_by is_sent_again (take l.place l.sent.items));
  end : l.place-end ≡ deque_len l.sent;
}
