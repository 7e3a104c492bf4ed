use Rattle.std.proofs.Common.{◌-◌, length}
use Rattle.enet_slot.specs.Slotted.{all_shown}
use Rattle.enet_sleepers.specs.Private.Sleepers.{NoneOf}
use Rattle.enet_sleepers.proofs.sleepers.Sleepers.first_free.Given as goal

abbrev pub invariant-loop-from : goal.invariant-loop-from
invariant-loop-from l = NoneOf l.generations (all_shown l.slots) l.self-inside.free l.from

abbrev pub decreases-loop-from : goal.decreases-loop-from
decreases-loop-from l = length l.slots - l.from
