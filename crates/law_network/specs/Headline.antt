-- The headline, of the lists that are kept in a world of two hosts: what was submitted and taken on each channel of an end, and its events; and what
-- the peers of both ends of a connection agree on.
use Rattle.std.specs.Prelude.{◌≡◌, ◌≢◌, ◌<◌, ℕ, ◌&&◌, ◌==◌, Bool, true, List, [], ◌∷◌, map, Option, Some, None}
use Rattle.enet_codec.specs.declared.address.Addr.{Addr}
use Rattle.enet_codec.specs.declared.event.Event.{Event}
use Rattle.enet_codec.specs.declared.event.Event.TheVariants as events
use Rattle.enet_codec.specs.declared.event.PeerRef.{PeerRef}
use Rattle.enet_codec.specs.declared.packet.Packet.{Packet}
use Rattle.enet_peer.specs.declared.parts.PeerEvent.{PeerEvent}
use Rattle.enet_peer.specs.Peering.{Peering}
use Rattle.law_connection.specs.Follows.{Follows}
use Rattle.law_connection.specs.LinkSteps.{Has, bodies_of}
use Rattle.law_connection.specs.Connection.{of_channel, in_sequence}
use Rattle.law_connection.specs.Law.{IsOneLife}
use Rattle.law_unsequenced.specs.Law.{GoesAs}
use Rattle.enet_host.specs.Host.{named}
use Rattle.enet_host.specs.Calls.{address_named}
use Rattle.enet_slot.specs.Calls.{event_of}
use Rattle.law_network.specs.declared.event.Side.{Side}
use Rattle.law_network.specs.declared.event.Side.TheVariants.{A, B}
use Rattle.law_network.specs.Log.{packets_at}
use Rattle.law_network.specs.Network.{HostEnd, Site, end_of}
use Rattle.law_network.specs.Numbers.{AgreeBetween}
use Rattle.law_network.specs.Shown.{on_channel}
use Rattle.law_network.specs.World.{World, site_of}

-- the end of connection x at a side, if its host has one
abbrev pub end_at : World → ℕ → Side → Option HostEnd
end_at w x side = end_of x (site_of w side).ends

-- what the user of an end submitted on a channel
abbrev pub submitted_at : ℕ → Option HostEnd → List Packet
submitted_at channel None = []
submitted_at channel (Some e) = (packets_at e.channels channel).submitted

-- what the user of an end took of a channel
abbrev pub taken_at : ℕ → Option HostEnd → List Packet
taken_at channel None = []
taken_at channel (Some e) = (packets_at e.channels channel).taken

-- all events that the user of an end took
abbrev pub events_at : Option HostEnd → List Event
events_at None = []
events_at (Some e) = e.events

-- the packets among events
abbrev pub received : List Event → List Packet
received [] = []
received (events.Receive name q ∷ es) = q ∷ received es
received (_ ∷ es) = received es

-- the greatest length of the datagrams by which the packets of an end go, in bytes
abbrev pub mtu_at : Option HostEnd → ℕ
mtu_at None = 0
mtu_at (Some e) = e.mtu

abbrev pub AreOn : ℕ → List Packet → Type 0
AreOn channel qs = (q : Packet) → Has qs q → q.channel ≡ channel

-- what the user of one end took of a channel follows what the user of the other submitted on it, unsequenced packets apart: a subsequence of
-- whole packets, each once, that leaves out no reliable packet before its last. Both lists have packets of that channel alone
pub record IsInOrder (from to : Option HostEnd) (channel : ℕ) : Type 0 where
  pub submitted : AreOn channel (submitted_at channel from)
  pub taken : AreOn channel (taken_at channel to)
  pub follows : Follows (mtu_at from) (of_channel (mtu_at from) channel (submitted_at channel from)) (bodies_of (in_sequence channel (taken_at channel to)))

-- each unsequenced packet that the user of one end took of a channel was submitted on it by the user of the other to go so, with just its bytes
abbrev pub WereSubmitted : (from to : Option HostEnd) (channel : ℕ) → Type 0
WereSubmitted from to channel = (q : Packet) → Has (taken_at channel to) q → q.flags ≡ 2 → (p : Packet) × Has (submitted_at channel from) p × GoesAs (mtu_at from) p q

-- events that the user of an end took are one life's, all of the peer of this name: at most one Connect, and only first; packets only after it, or
-- from the start where the connection stands from the start; at most one Disconnect, and only last
pub record IsLife (joined : Bool) (name : PeerRef) (taken : List Event) : Type 0 where
  pub events : List PeerEvent
  pub told : taken ≡ map (event_of name) events
  pub life : IsOneLife joined events

-- each peer of a host that is at a host's address is that of an end, which keeps what is submitted to it and taken from it
abbrev pub AreEnds : (Addr → Bool) → Site → Type 0
AreEnds is_host s = (name : PeerRef) (address : Addr) → address_named s.host.slots name ≡ Some address → is_host address ≡ true
    → (e : HostEnd) × Has s.ends e × (e.name ≡ name)

-- the mtu by which the packets of an end go, once one was submitted, is that of its peer, as long as that stands
abbrev pub GoByPeers : Site → Type 0
GoByPeers s = (e : HostEnd) (p : Peering) (channel : ℕ) → Has s.ends e → named s.host.slots e.name ≡ Some p → submitted_at channel (Some e) ≢ [] → e.mtu ≡ p.terms.mtu

-- the headline at a host; all that isn't at a host's address is strangers', and `joined` says that connection 0 stands from the start
pub record HasHeadlineAt (joined : Bool) (is_host : Addr → Bool) (s : Site) : Type 0 where
  pub all : AreEnds is_host s
  -- no two of its ends share a connection
  pub only : (e : HostEnd) → Has s.ends e → end_of e.connection s.ends ≡ Some e
  -- nor a name
  pub named : (e f : HostEnd) → Has s.ends e → Has s.ends f → e.name ≡ f.name → e ≡ f
  -- the packets that are kept of a channel are those of the events
  pub told : (e : HostEnd) → Has s.ends e → (channel : ℕ) → channel < 256 → (packets_at e.channels channel).taken ≡ on_channel channel (received e.events)
  pub one_life : (e : HostEnd) → Has s.ends e → IsLife (joined && e.connection == 0) e.name e.events
  pub mtu : GoByPeers s

-- and between the two ends of a connection
pub record HasHeadlineBetween (one two : Option HostEnd) : Type 0 where
  pub forth : (channel : ℕ) → IsInOrder one two channel
  pub back : (channel : ℕ) → IsInOrder two one channel
  pub unsequenced_forth : (channel : ℕ) → WereSubmitted one two channel
  pub unsequenced_back : (channel : ℕ) → WereSubmitted two one channel

-- the headline of each connection, end and channel of a world
pub record HasHeadline (joined : Bool) (w : World) : Type 0 where
  pub hosts : (side : Side) → HasHeadlineAt joined (λ address. true) (site_of w side)
  pub ends : (x : ℕ) → HasHeadlineBetween (end_at w x A) (end_at w x B)
  pub numbers : (x : ℕ) → AgreeBetween w.a w.b x
