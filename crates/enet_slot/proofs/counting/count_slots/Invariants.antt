use Rattle.std.proofs.Common.{take}
use Rattle.enet_slot.specs.Counting.{Counts}
use Rattle.enet_slot.specs.Slotted.{all_shown}
use Rattle.enet_slot.proofs.counting.count_slots.Given as goal

abbrev pub invariant-loop-slot : goal.invariant-loop-slot
invariant-loop-slot l = record {
  counted : Counts l.generations (all_shown (take l.slot-index l.slots)) l.counts;
}
