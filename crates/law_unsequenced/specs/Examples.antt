-- A run that does happen, so that the law speaks of something.
use Rattle.std.specs.Prelude.{◌≡◌, [], ◌∷◌}
use Rattle.enet_codec.specs.declared.packet.Packet.{Packet}
use Rattle.enet_peer.specs.declared.parts.PeerEvent.TheVariants as told
use Rattle.law_connection.specs.Connection.{Connection}

-- a packet that goes unsequenced
abbrev pub loose_packet : Packet
loose_packet = record { channel = 0; flags = 2; body = 7 ∷ 8 ∷ [] }

-- it was submitted at the one end and taken at the other
abbrev pub HasTaken : Connection → Type 0
HasTaken c = (c.one.submitted ≡ loose_packet ∷ []) × (c.two.events ≡ told.Receive loose_packet ∷ [])
