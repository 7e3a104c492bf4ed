use Rattle.std.proofs.Common.{◌≤◌, ◌+◌, length}
use Rattle.enet_text.specs.Inspected.{Wrote}
use Rattle.enet_text.specs.Captures.{TellsPackets}
use Rattle.enet_text.proofs.inspecting.tell_capture.Given as goal

abbrev pub invariant-packets : goal.invariant-packets
invariant-packets g l =
    (l.told + l.others + length l.rest ≤ length l.packets)
    × Wrote (g.W.Write.contents l.fn.writer) (g.W.Write.contents l.writer) (λ text. TellsPackets l.bodies l.format l.packets l.rest text l.told l.others)

abbrev pub decreases-packets : goal.decreases-packets
decreases-packets g l = length l.rest
