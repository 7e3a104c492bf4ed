use Rattle.std.proofs.Common.{◌-◌, ◌≤◌}
use Rattle.enet_slot.specs.Slotted.{all_shown}
use Rattle.enet_sleepers.specs.Private.Sleepers.{NoneOf}
use Rattle.enet_sleepers.proofs.sleepers.Sleepers.first_awake.Given as goal

abbrev pub invariant-loop-from : goal.invariant-loop-from
invariant-loop-from l = record {
  none : NoneOf l.generations (all_shown l.slots) l.self.awake l.from;
  within : l.from ≤ l.last;
}

abbrev pub decreases-loop-from : goal.decreases-loop-from
decreases-loop-from l = l.last - l.from
