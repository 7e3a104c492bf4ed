-- Packets are compared by channel and bytes.
use Rattle.std.specs.Prelude.{◌≡◌}
use Rattle.enet_codec.specs.declared.packet.Packet.{Packet}

-- Two packets with the same channel and the same bytes.
abbrev pub IsSamePacket : Packet → Packet → Type 0
IsSamePacket one other = (one.channel ≡ other.channel) × (one.body ≡ other.body)
