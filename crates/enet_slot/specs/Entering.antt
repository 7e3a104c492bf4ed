-- Which peers count as let in.
use Rattle.std.specs.Prelude.{ℕ, ◌&&◌, not, Bool, true, false, Option, None, Some, List}
use Rattle.std.specs.List.{count_by}
use Rattle.enet_peer.specs.declared.parts.PeerState.{PeerState}
use Rattle.enet_peer.specs.declared.parts.PeerState.TheVariants as state
use Rattle.enet_peer.specs.Calls.{is_answering}
use Rattle.enet_peer.specs.Peering.{Peering}
use Rattle.enet_slot.specs.Slot.{SlotState}

-- the states of one whose client confirmed, up to the event that tells of its end
abbrev pub is_past_answering : PeerState → Bool
is_past_answering state.Connected = true
is_past_answering state.DisconnectLater = true
is_past_answering state.Disconnecting = true
is_past_answering state.AckDisconnect = true
is_past_answering state.Ended = true
is_past_answering _ = false

abbrev pub has_entered_in : Option Peering → Bool
has_entered_in None = false
has_entered_in (Some p) = p.is_server && is_past_answering p.state

-- whether a slot's peer began by a CONNECT, and its client confirmed
abbrev pub has_entered : SlotState → Bool
has_entered s = has_entered_in s.peer

abbrev pub entered : List SlotState → ℕ
entered slots = count_by has_entered slots

-- whether it waits for its client to confirm, and wasn't refused
abbrev pub awaits_in : Option Peering → Bool
awaits_in None = false
awaits_in (Some p) = is_answering p.state && not p.refused

abbrev pub awaits : SlotState → Bool
awaits s = awaits_in s.peer
