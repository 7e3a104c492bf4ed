-- A datagram comes to a slot.
use Rattle.std.specs.Prelude.{◌≡◌, ℕ, ◌==◌, ◌&&◌, not, Bool, true, false, if◌then◌else◌, Option, Some, None, List}
use Rattle.enet_codec.specs.declared.address.Addr.{Addr}
use Rattle.enet_codec.specs.declared.event.Received.{Received}
use Rattle.enet_codec.specs.declared.stop.Stop.{Stop}
use Rattle.enet_codec.specs.declared.stop.Stop.TheVariants as stop
use Rattle.enet_peer.specs.declared.parts.PeerState.{PeerState}
use Rattle.enet_peer.specs.declared.parts.PeerState.TheVariants as state
use Rattle.enet_peer.specs.Peering.{Peering}
use Rattle.enet_peer.specs.Handling.{Arrival, Hears}
use Rattle.enet_peer.specs.Refusing.{is_turned_away}
use Rattle.enet_slot.specs.Slot.{SlotState, with_peer}

abbrev pub is_same_address : Addr → Addr → Bool
is_same_address a b = a.ip == b.ip && a.port == b.port

-- the peer id in the header of one who has no peer yet
abbrev pub no_peer : ℕ
no_peer = 0xFFF

-- whether a peer in this state takes no datagram in
abbrev pub is_deaf : PeerState → Bool
is_deaf state.Free = true
is_deaf state.Ended = true
is_deaf state.Parting = true
is_deaf _ = false

-- whether a datagram's session is the one that a peer takes in. It isn't tested before the other end's slot is known
abbrev pub fits_session : Peering → ℕ → Bool
fits_session p session = if p.terms.slot == no_peer then true else session == p.terms.incoming_session

-- whether a slot holds a peer at this address that takes datagrams in
abbrev pub hears_in : SlotState → Addr → Option Peering → Bool
hears_in s from None = false
hears_in s from (Some p) = not (is_deaf p.state) && is_same_address s.address from

abbrev pub hears : Addr → SlotState → Bool
hears from s = hears_in s from s.peer

-- why a slot takes a datagram from an address not in, in the order of tests
abbrev pub refused_by_peer : SlotState → Addr → ℕ → Option Peering → Option Stop
refused_by_peer s from session None = Some stop.UnknownPeer
refused_by_peer s from session (Some p) =
    if is_deaf p.state then Some stop.UnknownPeer
    else (if not (is_same_address s.address from) then Some stop.WrongAddress
    else (if not (fits_session p session) then Some stop.WrongSession
    else None))

abbrev pub refused_by_slot : Addr → ℕ → Option SlotState → Option Stop
refused_by_slot from session None = Some stop.UnknownPeer
refused_by_slot from session (Some s) = refused_by_peer s from session s.peer

-- whether a slot holds a peer that was refused, since the host was full
abbrev pub was_refused_in : Option Peering → Bool
was_refused_in None = false
was_refused_in (Some p) = is_turned_away p

abbrev pub was_refused : SlotState → Bool
was_refused s = was_refused_in s.peer

-- the commands of a datagram come to the peer of a slot
pub record PeerReceives (a : Arrival) (commands : List ℕ) (s : SlotState) (answer : Received) (t : SlotState) : Type 0 where
  pub peer : Peering
  pub after : Peering
  pub held : s.peer ≡ Some peer
  pub heard : Hears a commands peer answer after
  pub left : t ≡ with_peer s after

-- whether or not the host is full, these commands come to the peer of a slot alike
abbrev pub IsHeardAlike : List ℕ → SlotState → Type 0
IsHeardAlike commands s = (now : ℕ) (sent : Option ℕ) (answer : Received) (t : SlotState)
    → PeerReceives (record { now = now; sent = sent; full = false }) commands s answer t → PeerReceives (record { now = now; sent = sent; full = true }) commands s answer t

-- whether a slot holds the connection of an offer from this address with this connect id already
abbrev pub is_connection_in : SlotState → Addr → ℕ → Option Peering → Bool
is_connection_in s from word None = false
is_connection_in s from word (Some p) = not (is_deaf p.state) && (is_same_address s.address from && p.terms.connect_id == word)

abbrev pub is_connection : Addr → ℕ → SlotState → Bool
is_connection from word s = is_connection_in s from word s.peer

abbrev pub stopped : Stop → Received
stopped why = record { handled = 0; stop = Some why }
