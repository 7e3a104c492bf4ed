-- The packet that the next event of a peer hands out.
use Rattle.std.specs.Prelude.{ℕ, Option, Some, None, List, slice_get}
use Rattle.enet_codec.specs.declared.packet.Packet as codec
use Rattle.enet_peer.specs.Peering.{Peering}

-- none where a Connect event comes first
abbrev pub packet_after : Option ℕ → List codec.Packet → Option codec.Packet
packet_after (Some info) untaken = None
packet_after None untaken = slice_get untaken 0

abbrev pub next_packet : Peering → Option codec.Packet
next_packet p = packet_after p.greeting p.inbox.untaken
