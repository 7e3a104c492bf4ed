use Rattle.std.proofs.Common.{◌≡◌, ◌≤◌}
use Rattle.enet_seq.specs.Numbering.{wire}
use Rattle.enet_seq.specs.Windows.{after}
use Rattle.enet_packets.specs.Packets.{packets_in}
use Rattle.enet_receiver.specs.Receiver.{without}
use Rattle.enet_receiver.proofs.releasing.pass.Given as goal

abbrev pub invariant-loop-passed : goal.invariant-loop-passed
invariant-loop-passed l = record {
  last : l.last ≡ after l.front l._passed;
  held : l.held ≡ without wire l.initial.held (after l.front 1) l._passed;
  waiting : l.waiting ≡ without wire l.initial.waiting l.front l._passed;
  fewer : packets_in l.waiting ≤ packets_in l.initial.waiting;
}
