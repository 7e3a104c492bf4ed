use Rattle.std.proofs.Common.{◌≡◌, ◌-◌, length}
use Rattle.enet_slot.specs.Slotted.{all_shown}
use Rattle.enet_sleepers.specs.Sleeping.{KeepsSleepers}
use Rattle.enet_host.specs.Private.Sleeping.{AwakeAt}
use Rattle.enet_host.proofs.Asking.{AllAsked}
use Rattle.enet_host.proofs.emitting.emit.Given as goal

abbrev pub invariant-loop-turn : goal.invariant-loop-turn
invariant-loop-turn l = record {
  asked : AllAsked l.now l.peers l.from l.turn (all_shown l.initial.slots.items) (all_shown l.slots.items);
  awake : AwakeAt l.sleepers.awake l.peers l.from l.turn;
  sleepers : KeepsSleepers l.now l.sleepers (all_shown l.slots.items);
  count : length l.slots.items ≡ length l.initial.slots.items;
}

abbrev pub decreases-loop-turn : goal.decreases-loop-turn
decreases-loop-turn l = l.peers - l.turn
