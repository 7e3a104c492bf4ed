use Rattle.std.proofs.Common.{length}
use Rattle.enet_captured.proofs.timeline.read_packets.Given as goal

abbrev pub decreases-packets : goal.decreases-packets
decreases-packets l = length l.rest
