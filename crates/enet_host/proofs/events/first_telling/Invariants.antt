use Rattle.std.proofs.Common.{◌-◌}
use Rattle.enet_slot.specs.Calls.{tells}
use Rattle.enet_slot.specs.Slotted.{all_shown}
use Rattle.enet_host.specs.Private.Sleeping.{AwakeAt}
use Rattle.enet_host.proofs.Asking.{NoneBefore}
use Rattle.enet_host.proofs.events.first_telling.Given as goal

abbrev pub invariant-loop-turn : goal.invariant-loop-turn
invariant-loop-turn l = record {
  before : NoneBefore tells (all_shown l.slots) l.peers l.from l.turn;
  awake : AwakeAt l.sleepers.awake l.peers l.from l.turn;
}

abbrev pub decreases-loop-turn : goal.decreases-loop-turn
decreases-loop-turn l = l.peers - l.turn
