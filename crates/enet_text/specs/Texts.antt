-- The texts of answers, without the line feed that ends a line.
use Rattle.std.specs.Prelude.{ℕ, List, [], ◌∷◌, ◌++◌, map, codes, Option, Some, None}
use Rattle.std.specs.Fmt.{decimal}
use Rattle.std.specs.Int.{to_be_bytes, w32}
use Rattle.std.specs.List.{join_with_byte}
use Rattle.hex.specs.Hex.{encode_lower}
use Rattle.enet_codec.specs.declared.address.Addr.{Addr}
use Rattle.enet_codec.specs.declared.event.Event.{Event}
use Rattle.enet_codec.specs.declared.event.Event.TheVariants.{Connect, Receive, Disconnect, Refused}
use Rattle.enet_codec.specs.declared.event.PeerRef.{PeerRef}
use Rattle.enet_codec.specs.declared.event.Received.{Received}
use Rattle.enet_codec.specs.declared.stop.Stop.{Stop}
use Rattle.enet_codec.specs.Refusal.{label_of}
use Rattle.enet_codec.specs.Stop.{stop_number}

-- Bytes in hex of lower case, or `-` for none.
abbrev pub bytes_text : List ℕ → List ℕ
bytes_text [] = codes "-"
bytes_text (byte ∷ others) = encode_lower (byte ∷ others)

-- A peer as `slot.generation`.
abbrev pub peer_text : PeerRef → List ℕ
peer_text peer = decimal peer.slot ++ codes "." ++ decimal peer.generation

-- An address in dotted decimals, the highest byte first, and a port behind a colon.
abbrev pub address_text : Addr → List ℕ
address_text addr = join_with_byte 46 (map decimal (to_be_bytes w32 addr.ip)) ++ codes ":" ++ decimal addr.port

-- How many commands were handled, and the number of the stop, where there was one.
abbrev pub handled_text : ℕ → Option Stop → List ℕ
handled_text handled None = codes "handled " ++ decimal handled
handled_text handled (Some stop) = codes "handled " ++ decimal handled ++ codes " stop S" ++ decimal (stop_number stop)

-- What came of a datagram.
abbrev pub received_text : Received → List ℕ
received_text received = handled_text received.handled received.stop

-- An event that was taken.
abbrev pub event_text : Event → List ℕ
event_text (Connect peer info) = codes "connect " ++ peer_text peer ++ codes " data " ++ decimal info
event_text (Receive peer packet) =
    codes "receive " ++ peer_text peer ++ codes " ch " ++ decimal packet.channel ++ codes " flags " ++ decimal packet.flags
    ++ codes " " ++ bytes_text packet.body
event_text (Disconnect peer info) = codes "disconnect " ++ peer_text peer ++ codes " data " ++ decimal info
event_text (Refused seat number why) = label_of why
