use Rattle.std.proofs.Common.{◌≡◌, ◌≤◌}
use Rattle.enet_outbox.specs.Emission.{Filling}
use Rattle.enet_outbox.specs.Private.Packing.{Holds}
use Rattle.enet_outbox.proofs.Controls.{ControlAt}
use Rattle.enet_outbox.proofs.Turns.{control_left}
use Rattle.enet_outbox.proofs.packing.pack_controls.Given as goal

abbrev pub invariant-commands : goal.invariant-commands
invariant-commands l = record {
  stage : (f : Filling) → Holds f l.initial.progress l.initial.buf → f.outbox.control ≡ l.initial.control.commands → ControlAt l.pace f l.control.commands l.progress l.buf;
  room : l.initial.control.room ≤ l.control.room;
}

abbrev pub decreases-commands : goal.decreases-commands
decreases-commands l = control_left l.control.commands
