use Rattle.std.proofs.Common.{◌-◌, length}
use Rattle.enet_slot.specs.Slotted.{all_shown}
use Rattle.enet_sleepers.specs.Sleeping.{KeepsSleepers}
use Rattle.enet_sleepers.proofs.sleepers.Sleepers.settle.Given as goal

abbrev pub invariant-loop-from : goal.invariant-loop-from
invariant-loop-from l = KeepsSleepers l.now l.self (all_shown l.slots)

abbrev pub decreases-loop-from : goal.decreases-loop-from
decreases-loop-from l = length l.slots - l.from
