use Rattle.std.proofs.Common.{◌-◌, ◌<◌, ◌⊎◌, length}
use Rattle.enet_deadlines.specs.Sets.{IsOut}
use Rattle.enet_slot.specs.Slotted.{all_shown}
use Rattle.enet_sleepers.specs.Private.Soon.{KnowsDue}
use Rattle.enet_sleepers.proofs.sleepers.Sleepers.due_in.Given as goal

abbrev pub invariant-loop-from : goal.invariant-loop-from
invariant-loop-from l = KnowsDue l.now (all_shown l.slots) (λ i. IsOut l.self.awake i ⊎ (i < l.from)) l.wait

abbrev pub decreases-loop-from : goal.decreases-loop-from
decreases-loop-from l = length l.slots - l.from
