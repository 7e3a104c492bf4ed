use Rattle.std.proofs.Common.{◌≡◌, ℕ, ◌<◌, Some, length, false}
use Rattle.slab.specs.Slab.{get}
use Rattle.enet_deadlines.specs.Moments.{IsAt}
use Rattle.enet_sender.specs.declared.sent.Sent.{Sent}
use Rattle.enet_sender.specs.Foretold.{IsForetold}
use Rattle.enet_sender.proofs.lateness.advance.Given as goal

abbrev pub invariant-loop-key : goal.invariant-loop-key
invariant-loop-key l = record {
  len : length l.deadlines ≡ length l.initial.deadlines;
  end : l.key-end ≡ length l.initial.deadlines;
  only : (key moment : ℕ) → IsAt l.deadlines key moment → (p : Sent) × ((get l.slab key ≡ Some p) × (p.transmission.due ≡ false));
  each : (key : ℕ) (p : Sent) → key < l.key → get l.slab key ≡ Some p → p.transmission.due ≡ false → IsForetold l.anew l.deadlines key p;
}
