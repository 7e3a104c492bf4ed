use Rattle.std.proofs.Common.{◌≡◌, take}
use Rattle.enet_sender.specs.Counting.{added}
use Rattle.enet_slot.specs.Counting.{count_sent_again}
use Rattle.enet_slot.specs.Slotted.{all_shown}
use Rattle.enet_slot.proofs.counting.count_sent_again.Given as goal

abbrev pub invariant-loop-slot : goal.invariant-loop-slot
invariant-loop-slot l = record {
  counted : l.total ≡ added 0 (count_sent_again (all_shown (take l.slot-index l.slots)));
}
