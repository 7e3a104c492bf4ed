use Rattle.std.proofs.Common.{◌≡◌, ℕ, ◌-◌, ◌<◌, ◌≤◌, Some, length, false}
use Rattle.slab.specs.Slab.{get}
use Rattle.enet_sender.specs.declared.sent.Sent.{Sent}
use Rattle.enet_sender.specs.Sender.{ends}
use Rattle.enet_sender.proofs.lateness.any_ends.Given as goal

abbrev pub invariant-due : goal.invariant-due
invariant-due l = record {
  before : (key : ℕ) (p : Sent) → key < l.from → get l.slab key ≡ Some p → ends l.now l.patience l.heard p ≡ false;
  within : l.from ≤ length l.deadlines;
}

abbrev pub decreases-due : goal.decreases-due
decreases-due l = length l.deadlines - l.from
