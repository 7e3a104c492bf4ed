use Rattle.std.proofs.Common.{◌≡◌, ℕ, ◌-◌, ◌<◌, Some, length, false}
use Rattle.slab.specs.Slab.{get}
use Rattle.enet_deadlines.specs.Moments.{IsNotDue}
use Rattle.enet_sender.specs.declared.sent.Sent.{Sent}
use Rattle.enet_sender.specs.Sender.{is_late}
use Rattle.enet_sender.specs.Foretold.{AreForetold}
use Rattle.enet_sender.proofs.lateness.any_late.Given as goal

abbrev pub invariant-due : goal.invariant-due
invariant-due l = record {
  foretold : AreForetold l.clock (get l.slab) l.deadlines;
  len : length l.deadlines ≡ length l.initial.deadlines;
  before : (key : ℕ) (p : Sent) → key < l.from → get l.slab key ≡ Some p → is_late l.now p ≡ false;
  past : (key : ℕ) → key < l.from → IsNotDue l.clock l.deadlines key;
}

abbrev pub decreases-due : goal.decreases-due
decreases-due l = length l.initial.deadlines - l.from
