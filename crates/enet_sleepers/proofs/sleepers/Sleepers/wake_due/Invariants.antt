use Rattle.std.proofs.Common.{◌≡◌, ◌-◌, ℕ, ◌<◌, List, length}
use Rattle.enet_deadlines.specs.Moments.{IsAt}
use Rattle.enet_slot.specs.Slot.{SlotState}
use Rattle.enet_sleepers.specs.Sleeping.{KeepsSleepers}
use Rattle.enet_sleepers.proofs.sleepers.Sleepers.wake_due.Given as goal

abbrev pub invariant-loop-from : goal.invariant-loop-from
invariant-loop-from l = record {
  kept : (now : ℕ) (slots : List SlotState) → KeepsSleepers now l.initial.self slots → KeepsSleepers now l.self slots;
  ahead : (i due : ℕ) → i < l.from → IsAt l.self.due i due → l.moment < due;
  clock : l.self.clock ≡ l.initial.self.clock;
}

abbrev pub decreases-loop-from : goal.decreases-loop-from
decreases-loop-from l = length l.self.due - l.from
