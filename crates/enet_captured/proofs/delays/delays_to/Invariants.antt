use Rattle.std.proofs.Common.{◌≡◌, ◌≤◌}
use Rattle.enet_captured.specs.Delays.{delays_to}
use Rattle.enet_captured.proofs.delays.delays_to.Given as goal

-- how soon those so far were acknowledged
abbrev pub invariant-loop-place : goal.invariant-loop-place
invariant-loop-place l = record {
  are : l.delays ≡ delays_to l.marks l.fn.way l.place;
  few : l.delays.count ≤ l.place;
}
