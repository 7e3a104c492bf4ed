use Rattle.std.proofs.Common.{◌≡◌, ℕ, ◌<◌, length}
use Rattle.enet_deadlines.specs.Sets.{IsIn}
use Rattle.enet_sleepers.proofs.sleepers.insert_all.Given as goal

abbrev pub invariant-loop-place : goal.invariant-loop-place
invariant-loop-place l = record {
  all : (i : ℕ) → i < l.place → IsIn l.set i;
  count : length l.set ≡ length l.initial.set;
  end : l.place-end ≡ length l.initial.set;
}
