use Rattle.std.proofs.Common.{ℕ}
use Rattle.enet_slot.specs.Slotted.{all_shown}
use Rattle.enet_sleepers.specs.Unproved.{KeepsUnproved}
use Rattle.enet_sleepers.proofs.Waited.{how_many}
use Rattle.enet_sleepers.proofs.unproved.Unproved.oldest.Given as goal

abbrev pub invariant-loop-place : goal.invariant-loop-place
invariant-loop-place l = (now : ℕ) → KeepsUnproved now l.generations l.initial.self (all_shown l.slots) → KeepsUnproved now l.generations l.self (all_shown l.slots)

abbrev pub decreases-loop-place : goal.decreases-loop-place
decreases-loop-place l = how_many l.self.since
