use Rattle.std.proofs.Common.{◌≡◌, take, length}
use Rattle.enet_sender.specs.Counting.{added}
use Rattle.enet_senders.specs.Counting.{count_over}
use Rattle.enet_senders.specs.Senders.{ends_in}
use Rattle.enet_senders.proofs.senders.count_each.Given as goal

abbrev pub invariant-loop-place : goal.invariant-loop-place
invariant-loop-place l = record {
  counted : l.total ≡ added l.so_far (count_over (take l.place (ends_in l.pending l.channels)));
  end : l.place-end ≡ length l.channels;
}
