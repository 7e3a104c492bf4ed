-- No packet that comes in sequence has the flags 2, which are those of an unsequenced packet.
use Rattle.std.specs.Prelude.{◌≡◌, ℕ, false, ◌==◌, List, [], ◌∷◌, Some}
use Rattle.std.specs.FinMap.{get}
use Rattle.enet_packets.specs.declared.incoming_packet.IncomingPacket.{IncomingPacket}
use Rattle.enet_packets.specs.declared.incoming_packet.Dispatched.{Dispatched}
use Rattle.enet_packets.specs.Packets.{line_at}
use Rattle.enet_receiver.specs.Receiver.{Receiver}

-- a packet that is on its way
abbrev pub IsSequenced : IncomingPacket → Type 0
IsSequenced c = (c.flags == 2) ≡ false

-- packets that were dispatched
abbrev pub AreSequenced : List Dispatched → Type 0
AreSequenced [] = Unit {0}
AreSequenced (d ∷ ds) = ((d.flags == 2) ≡ false) × AreSequenced ds

-- all packets of a receiver
pub record HasSequenced (r : Receiver) : Type 0 where
  pub held : (n : ℕ) (c : IncomingPacket) → get r.held n ≡ Some c → IsSequenced c
  pub waiting : (n k : ℕ) (c : IncomingPacket) → get (line_at r.waiting n) k ≡ Some c → IsSequenced c
  pub dispatched : AreSequenced r.dispatched
