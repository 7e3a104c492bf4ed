-- A slot, which holds a peer or is free.
use Rattle.std.specs.Prelude.{ℕ, ◌+◌, ◌==◌, min, Bool, false, if◌then◌else◌, Option, Some, None}
use Rattle.enet_codec.specs.declared.address.Addr.{Addr}
use Rattle.enet_codec.specs.declared.event.PeerRef.{PeerRef}
use Rattle.enet_peer.specs.declared.parts.Ending.{Ending}
use Rattle.enet_peer.specs.declared.parts.PeerState.{PeerState}
use Rattle.enet_peer.specs.declared.parts.PeerState.TheVariants as state
use Rattle.enet_peer.specs.Peering.{Peering}
use Rattle.enet_peer.specs.Calls as peers

-- a slot, which holds a peer or is free
pub record SlotState : Type 0 where
  pub generation : ℕ  -- that of its peer; of a free slot that of its next peer
  pub address : Addr  -- that of its peer, or of the last one that it held
  pub incoming_session : ℕ  -- the sessions of the last connection that it held to its end, 0xFF before there was one
  pub outgoing_session : ℕ
  pub emitted : ℕ  -- bytes that its peer put out since the bandwidth was last shared out; it stops at its greatest value
  pub ending : Option Ending  -- why the connection of the last peer that left it ended, if its user was told of it
  pub peer : Option Peering

-- the greatest number of 32 bits, where what is counted stops
abbrev pub greatest : ℕ
greatest = 4294967295

-- a slot that is free again keeps the sessions of the connection that it had, and why that ended. Its next peer has the next generation,
-- which never stops at the greatest number, since a slot is only given out with a generation below the number of generations
abbrev pub vacated : SlotState → Peering → SlotState
vacated s p = record s {
  generation = min (s.generation + 1) greatest;
  incoming_session = p.terms.incoming_session;
  outgoing_session = p.terms.outgoing_session;
  ending = p.ending;
  peer = None;
}

abbrev pub with_peer_in : PeerState → SlotState → Peering → SlotState
with_peer_in state.Free s p = vacated s p
with_peer_in _ s p = record s { peer = Some p }

-- what a call that left the peer so leaves of its slot: one whose peer is free is free
abbrev pub with_peer : SlotState → Peering → SlotState
with_peer s p = with_peer_in p.state s p

-- a change of the peer that a slot holds, if it holds one
abbrev pub with_changed : (Peering → Peering) → SlotState → Option Peering → SlotState
with_changed change s None = s
with_changed change s (Some p) = with_peer s (change p)

abbrev pub changed : (Peering → Peering) → SlotState → SlotState
changed change s = with_changed change s s.peer

-- why the connection of a peer has ended
abbrev pub ending_now : Option Peering → Option Ending
ending_now None = None
ending_now (Some p) = p.ending

-- why the connection of the peer of this generation ended: of the peer that the slot holds, or of the one that it held before
abbrev pub ending_of : SlotState → ℕ → Option Ending
ending_of s generation =
    if s.generation == generation then ending_now s.peer
    else (if s.generation == generation + 1 then s.ending else None)

-- how the peer of a slot is named
abbrev pub name_of : ℕ → SlotState → PeerRef
name_of i s = record { slot = i; generation = s.generation }

-- whether a moment brings the peer of a slot anything
abbrev pub is_due_in : Option Peering → ℕ → Bool
is_due_in None now = false
is_due_in (Some p) now = peers.is_due p now

abbrev pub is_due : ℕ → SlotState → Bool
is_due now s = is_due_in s.peer now
