-- How far a connection has come at a host.
use Rattle.std.specs.Prelude.{ℕ, Option, List}
use Rattle.std.specs.Option.{option_and_then, option_map}
use Rattle.enet_peer.specs.declared.parts.PeerState.{PeerState}
use Rattle.enet_peer.specs.Peering.{Peering}
use Rattle.enet_slot.specs.Slot.{SlotState}
use Rattle.enet_host.specs.Host.{named}
use Rattle.law_network.specs.Network.{HostEnd, Site, end_of}

-- the peer of connection x among these slots, where there is an end of it whose peer stands
abbrev pub peer_in : List SlotState → List HostEnd → ℕ → Option Peering
peer_in slots ends x = option_and_then (λ (e : HostEnd). named slots e.name) (end_of x ends)

abbrev pub peer_at : Site → ℕ → Option Peering
peer_at s x = peer_in s.host.slots s.ends x

-- and its state
abbrev pub state_in : List SlotState → List HostEnd → ℕ → Option PeerState
state_in slots ends x = option_map (λ (p : Peering). p.state) (peer_in slots ends x)

abbrev pub state_at : Site → ℕ → Option PeerState
state_at s x = state_in s.host.slots s.ends x
