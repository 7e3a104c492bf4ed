use Rattle.std.proofs.Common.{◌≡◌, ℕ, ◌<◌, List, length}
use Rattle.enet_deadlines.specs.Sets.{IsIn, IsOut}
use Rattle.enet_slot.specs.Slot.{SlotState}
use Rattle.enet_sleepers.specs.Sleeping.{KeepsSleepers}
use Rattle.enet_sleepers.proofs.sleepers.Sleepers.wake_held.Given as goal

abbrev pub invariant-loop-number : goal.invariant-loop-number
invariant-loop-number l = record {
  kept : (now : ℕ) (slots : List SlotState) → KeepsSleepers now l.initial.self slots → KeepsSleepers now l.self slots;
  free : (i : ℕ) → i < l.number → IsOut l.self.awake i → IsIn l.self.free i;
  count : length l.self.awake ≡ length l.initial.self.awake;
  end : l.number-end ≡ length l.initial.self.awake;
}
