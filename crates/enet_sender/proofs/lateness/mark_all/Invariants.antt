use Rattle.std.proofs.Common.{◌≡◌, ℕ, ◌-◌, ◌<◌, ◌≤◌, length, take}
use Rattle.std.specs.Option.{option_map}
use Rattle.slab.specs.Slab.{get}
use Rattle.enet_deadlines.specs.Moments.{IsNotDue}
use Rattle.enet_sender.specs.Sender.{marked}
use Rattle.enet_sender.specs.Foretold.{AreForetold}
use Rattle.enet_sender.specs.Late.{IsLate}
use Rattle.enet_sender.proofs.lateness.mark_all.Given as goal

abbrev pub invariant-due : goal.invariant-due
invariant-due l = record {
  foretold : AreForetold l.clock (get l.slab) l.deadlines;
  len : length l.deadlines ≡ length l.initial.deadlines;
  done : (key : ℕ) → key < l.from → get l.slab key ≡ option_map (marked l.tick) (get l.initial.slab key);
  past : (key : ℕ) → key < l.from → IsNotDue l.clock l.deadlines key;
  late : IsLate l.tick (take l.from l.initial.slab.slots) l.late;
  ahead : (key : ℕ) → l.from ≤ key → get l.slab key ≡ get l.initial.slab key;
}

abbrev pub decreases-due : goal.decreases-due
decreases-due l = length l.initial.deadlines - l.from
