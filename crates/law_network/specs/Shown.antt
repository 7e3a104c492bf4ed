-- How the two hosts of a world show the two ends of a connection, as the law of one connection has them.
use Rattle.std.specs.Prelude.{◌≡◌, ◌<◌, ◌≤◌, ℕ, ◌==◌, ◌⊎◌, false, List, [], ◌∷◌, length, map, filter, Some, None, slice_get}
use Rattle.enet_codec.specs.declared.event.PeerRef.{PeerRef}
use Rattle.enet_codec.specs.declared.packet.Packet.{Packet}
use Rattle.enet_codec.specs.declared.header.Header.{Header}
use Rattle.enet_codec.specs.Datagram.{SpellsDatagram}
use Rattle.enet_fragment.specs.declared.data.DataCommand.{DataCommand}
use Rattle.enet_fragment.specs.DataCommand.{data_of}
use Rattle.enet_peer.specs.declared.parts.PeerState.TheVariants as state
use Rattle.enet_peer.specs.Peering.{Peering}
use Rattle.law_connection.specs.LinkSteps.{Has}
use Rattle.law_connection.specs.Connection.{Put, End, messages_of, sent_on, packets_of}
use Rattle.law_connection.specs.Invariant.{is_young}
use Rattle.law_connection.specs.Steps.{Event, Happens}
use Rattle.enet_slot.specs.Slot.{SlotState}
use Rattle.enet_host.specs.Host.{Host}
use Rattle.enet_slot.specs.Calls.{event_of}
use Rattle.law_network.specs.IsolationLaw.{IsAt}
use Rattle.law_network.specs.declared.mark.Mark.{Mark}
use Rattle.law_network.specs.declared.mark.MarkKind.TheVariants.{Data}
use Rattle.law_network.specs.Log.{Logged, packets_at, greatest_at}
use Rattle.law_network.specs.Marks.{mark_of}
use Rattle.law_network.specs.Network.{HostEnd, Site, numbers_of}

-- nobody has this name any more, nor will
abbrev pub IsGone : Host → PeerRef → Type 0
IsGone h name = (s : SlotState) × (slice_get h.slots name.slot ≡ Some s) × ((name.generation < s.generation) ⊎ ((h.config.generations ≤ s.generation) × (s.peer ≡ None)))

-- a host holds the peer of a name, or gave it up, which left it free
pub record ShowsPeer (h : Host) (name : PeerRef) (p : Peering) : Type 0 where
  pub is : IsAt h name p
  pub gone : p.state ≡ state.Free → IsGone h name

-- a datagram of a log: its bytes spell a header, which names this peer, and commands that the end put out, and its marks are theirs on the channels
-- below 255, those of the data commands of a channel alike
pub record IsLogged (log : List Put) (d : Logged) : Type 0 where
  pub header : Header
  pub peer : d.peer ≡ header.peer
  pub puts : List Put
  pub spelled : SpellsDatagram d.text header (messages_of puts)
  pub logged : (x : Put) → Has puts x → Has log x
  pub marked : (x : Put) (mark : Mark) → Has puts x → x.message.head.channel < 255 → mark_of x.message ≡ Some mark → Has d.marks (record mark { sent_then = x.sent_then })
  pub alike : (x : Put) (c : DataCommand) (mark : Mark) → Has puts x → x.message.head.channel < 255 → data_of x.message ≡ Some c → Has d.marks mark → mark.kind ≡ Data → mark.channel ≡ x.message.head.channel
      → mark.sent_then ≡ x.sent_then

-- the packets of a channel
abbrev pub on_channel : ℕ → List Packet → List Packet
on_channel channel qs = filter (λ (q : Packet). q.channel == channel) qs

-- the mtu by which the packets that were submitted to a peer go: its own, which stays once the connection stands, as it did by the first of them
abbrev pub GoesBy : List Packet → ℕ → Peering → Type 0
GoesBy submitted mtu p = (submitted ≡ []) ⊎ ((is_young p.state ≡ false) × (p.terms.mtu ≡ mtu))

-- a host shows an end of a connection: its peer, all its datagrams and how far its numbers have come, what was submitted and taken, and its events
pub record Shows (s : Site) (e : HostEnd) (own : End) : Type 0 where
  pub peer : Peering
  pub has : own.peer ≡ Some peer
  pub shows : ShowsPeer s.host e.name peer
  pub long : length e.channels ≡ 256
  pub numbers : length e.greatest ≡ 256
  pub log : (k : ℕ) (d : Logged) → slice_get s.log k ≡ Some d → d.connection ≡ e.connection → IsLogged own.log d
  pub greatest : (channel : ℕ) → channel < 255 → greatest_at e.greatest channel ≡ sent_on channel own
  pub submitted : (channel : ℕ) → channel < 256 → (packets_at e.channels channel).submitted ≡ on_channel channel own.submitted
  pub mtu : GoesBy own.submitted e.mtu peer
  pub taken : (channel : ℕ) → channel < 256 → (packets_at e.channels channel).taken ≡ on_channel channel (packets_of own.events)
  pub events : e.events ≡ map (event_of e.name) own.events

-- what a host shows of the other end of connection x: its datagrams and how far its numbers have come; both are none where it has no such end
pub record ShowsFar (s : Site) (x : ℕ) (far : End) : Type 0 where
  pub log : (k : ℕ) (d : Logged) → slice_get s.log k ≡ Some d → d.connection ≡ x → IsLogged far.log d
  pub greatest : (channel : ℕ) → channel < 255 → greatest_at (numbers_of s x) channel ≡ sent_on channel far

-- events at one end, the other being as it is
abbrev pub RunsAt : List Event → End → End → End → Type 0
RunsAt [] own far new = own ≡ new
RunsAt (e ∷ es) own far new = (b : End) × Happens own far e b × RunsAt es b far new

-- events of the law bring an end to what a host shows afterwards
pub record Went (own far : End) (s : Site) (f : HostEnd) : Type 0 where
  pub new : End
  pub events : List Event
  pub runs : RunsAt events own far new
  pub shows : Shows s f new

-- no other end of a host has the name or the connection of this one
abbrev pub IsApart : List HostEnd → HostEnd → Type 0
IsApart ends e = (f : HostEnd) → Has ends f → (f.name ≡ e.name) ⊎ (f.connection ≡ e.connection) → f ≡ e
