-- What a user's calls make of a slot.
use Rattle.std.specs.Prelude.{◌≡◌, ℕ, Bool, true, false, if◌then◌else◌, Option, Some, None, Result, Ok, Err, List, length, is_some, is_ok}
use Rattle.enet_codec.specs.declared.event.DisconnectMode.{DisconnectMode}
use Rattle.enet_codec.specs.declared.event.DisconnectMode.TheVariants.{Now, Ask, Later}
use Rattle.enet_codec.specs.declared.event.Event.{Event}
use Rattle.enet_codec.specs.declared.event.Event.TheVariants as events
use Rattle.enet_codec.specs.declared.event.PeerRef.{PeerRef}
use Rattle.enet_codec.specs.declared.packet.Packet as codec
use Rattle.enet_codec.specs.declared.refusal.Refusal.{Refusal}
use Rattle.enet_codec.specs.declared.refusal.Refusal.TheVariants.{Full, Memory, NoSuchPeer, NotConnected}
use Rattle.enet_sender.specs.CommandChoice.{Packet}
use Rattle.enet_outbox.specs.declared.parts.SendLimit.{SendLimit}
use Rattle.enet_outbox.specs.Outstanding.{is_full}
use Rattle.enet_peer.specs.declared.parts.PeerEvent.{PeerEvent}
use Rattle.enet_peer.specs.declared.parts.PeerEvent.TheVariants as told
use Rattle.enet_peer.specs.Peering.{Peering}
use Rattle.enet_peer.specs.Calls as peers
use Rattle.enet_peer.specs.Next.{next_packet}
use Rattle.enet_slot.specs.declared.calls.Setting.{Setting}
use Rattle.enet_slot.specs.declared.calls.Setting.TheVariants.{PingInterval, Timeout}
use Rattle.enet_slot.specs.Slot.{SlotState, with_peer, name_of}

-- a call on the peer of a slot leaves the slot so, or is refused; E2 where the slot is free
abbrev pub kept : SlotState → Result Peering Refusal → Result SlotState Refusal
kept s (Ok p) = Ok (with_peer s p)
kept s (Err why) = Err why

abbrev pub on_peer_in : SlotState → (Peering → Result Peering Refusal) → Option Peering → Result SlotState Refusal
on_peer_in s call None = Err NoSuchPeer
on_peer_in s call (Some p) = kept s (call p)

abbrev pub on_peer : SlotState → (Peering → Result Peering Refusal) → Result SlotState Refusal
on_peer s call = on_peer_in s call s.peer

-- what a call did that takes no memory: `outcome` is what it leaves, or its refusal, which changes nothing
abbrev pub Does : {T S : Type 0} → Result T Refusal → Result S Refusal → S → S → Type 0
Does (Ok done) outcome old new = outcome ≡ Ok new
Does (Err why) outcome old new = (outcome ≡ Err why) × (new ≡ old)

-- what a call did that takes memory: where nothing else is refused, memory may be, and that changes nothing
abbrev pub IsRefusedBy : {S : Type 0} → Refusal → Result S Refusal → Type 0
IsRefusedBy Memory outcome = is_ok outcome ≡ true
IsRefusedBy why outcome = outcome ≡ Err why

abbrev pub DoesWithMemory : {T S : Type 0} → Result T Refusal → Result S Refusal → S → S → Type 0
DoesWithMemory (Ok done) outcome old new = outcome ≡ Ok new
DoesWithMemory (Err why) outcome old new = IsRefusedBy why outcome × (new ≡ old)

-- the same of a call that is given a packet, whose body a refusal hands back
abbrev pub Submits : {T S : Type 0} → Result T (Refusal × List ℕ) → Packet → Result S Refusal → S → S → Type 0
Submits (Ok done) q outcome old new = outcome ≡ Ok new
Submits (Err e) q outcome old new = IsRefusedBy e.0 outcome × (e.1 ≡ q.body) × (new ≡ old)

-- a packet is submitted to a peer on a channel
abbrev pub submitted_unless : Peering → ℕ → Packet → Option Refusal → Result Peering Refusal
submitted_unless p channel q None = Ok (peers.submitted p channel q)
submitted_unless p channel q (Some why) = Err why

abbrev pub submission : ℕ → Packet → Peering → Result Peering Refusal
submission channel q p = submitted_unless p channel q (peers.submission_refusal p channel (length q.body))

-- a call that isn't carried out where the peer is full; what else refuses it comes first
abbrev pub or_full : Result Peering Refusal → Result Peering Refusal
or_full (Ok p) = Err Full
or_full (Err why) = Err why

abbrev pub unless_full : Option SendLimit → (Peering → Result Peering Refusal) → Peering → Result Peering Refusal
unless_full limit call p = if is_full limit p.outbox then or_full (call p) else call p

-- a disconnect call of a mode
abbrev pub left_by : DisconnectMode → Peering → ℕ → Option Peering
left_by Now p info = peers.left (peers.leave_now p.state) p info
left_by Ask p info = peers.left (peers.leave_by_asking p.state) p info
left_by Later p info = peers.left (peers.leave_later p.state) p info

abbrev pub or_not_connected : Option Peering → Result Peering Refusal
or_not_connected None = Err NotConnected
or_not_connected (Some p) = Ok p

abbrev pub leaving : DisconnectMode → ℕ → Peering → Result Peering Refusal
leaving mode info p = or_not_connected (left_by mode p info)

-- new numbers of a connected peer's throttle
abbrev pub throttling : ℕ → ℕ → ℕ → Peering → Result Peering Refusal
throttling interval acceleration deceleration p =
    if peers.is_connected p.state then Ok (peers.with_throttle p interval acceleration deceleration) else Err NotConnected

-- settings of a peer in any state
abbrev pub pinging : ℕ → Peering → Result Peering Refusal
pinging ms p = Ok (peers.with_ping_interval p ms)

abbrev pub waiting : ℕ → ℕ → ℕ → Peering → Result Peering Refusal
waiting limit minimum maximum p = Ok (peers.with_timeout p limit minimum maximum)

-- whether a slot's peer has an event
abbrev pub peer_tells : Option Peering → Bool
peer_tells None = false
peer_tells (Some p) = is_some (peers.next_event p)

abbrev pub tells : SlotState → Bool
tells s = peer_tells s.peer

-- an event of a peer, as the host tells it
abbrev pub event_of : PeerRef → PeerEvent → Event
event_of name (told.Connect info) = events.Connect name info
event_of name (told.Receive packet) = events.Receive name packet
event_of name (told.Disconnect info) = events.Disconnect name info

-- the peer of slot i gave an event
pub record GivesEvent (i : ℕ) (event : Event) (s t : SlotState) : Type 0 where
  pub peer : Peering
  pub held : s.peer ≡ Some peer
  pub taken : peers.Taken
  pub next : peers.next_event peer ≡ Some taken
  pub told : event ≡ event_of (name_of i s) taken.event
  pub left : t ≡ with_peer s taken.after

-- the packet that the next event of a slot's peer hands out
abbrev pub peer_packet : Option Peering → Option codec.Packet
peer_packet None = None
peer_packet (Some p) = next_packet p

-- what a setting changes of a peer
abbrev pub set_by : Setting → Peering → Result Peering Refusal
set_by (PingInterval ms) = pinging ms
set_by (Timeout limit minimum maximum) = waiting limit minimum maximum

-- the first refusal but want of memory that a submission of so many bytes meets: where there is no other, that the peer is full
abbrev pub or_else_full : Bool → Option Refusal → Option Refusal
or_else_full full None = if full then Some Full else None
or_else_full full (Some why) = Some why

abbrev pub refused_in : Option SendLimit → ℕ → ℕ → Option Peering → Option Refusal
refused_in limit channel len None = Some NoSuchPeer
refused_in limit channel len (Some p) = or_else_full (is_full limit p.outbox) (peers.submission_refusal p channel len)
