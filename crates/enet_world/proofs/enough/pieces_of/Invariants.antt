use Rattle.std.proofs.Common.{◌≡◌, min, take}
use Rattle.enet_world.specs.Needed.{pieces_of}
use Rattle.enet_world.proofs.enough.pieces_of.Given as goal

abbrev pub invariant-loop-packet : goal.invariant-loop-packet
invariant-loop-packet l = l.pieces ≡ min (pieces_of (take l.packet-index l.packets)) 18446744073709551615
