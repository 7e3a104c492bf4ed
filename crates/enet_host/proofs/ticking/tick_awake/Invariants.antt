use Rattle.std.proofs.Common.{◌≡◌, ◌-◌, ◌++◌, take, drop, length}
use Rattle.enet_slot.specs.Slotted.{all_shown}
use Rattle.enet_host.specs.Private.Ticking.{all_ticked}
use Rattle.enet_host.proofs.ticking.tick_awake.Given as goal

abbrev pub invariant-loop-from : goal.invariant-loop-from
invariant-loop-from l = record {
  items : all_shown l.slots.items ≡ all_ticked l.now l.credits (take l.from (all_shown l.initial.slots.items)) ++ drop l.from (all_shown l.initial.slots.items);
  count : length l.slots.items ≡ length l.initial.slots.items;
}

abbrev pub decreases-loop-from : goal.decreases-loop-from
decreases-loop-from l = length l.slots.items - l.from
