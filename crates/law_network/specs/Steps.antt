-- What happens at a host of a network: one host call, with what it adds to what is kept. The other hosts are as they were.
use Rattle.enet_codec.specs.declared.event.PeerRef.{PeerRef}
use Rattle.std.specs.Prelude.{◌≡◌, ℕ, ◌+◌, Bool, true, false, List, [], ◌∷◌, ◌++◌, take, Option, Some, None, Ok, slice_get}
use Rattle.enet_codec.specs.declared.address.Addr.{Addr}
use Rattle.enet_codec.specs.declared.event.Event.{Event}
use Rattle.enet_codec.specs.declared.event.Event.TheVariants as events
use Rattle.enet_codec.specs.declared.event.Received.{Received}
use Rattle.enet_codec.specs.declared.packet.Packet.{Packet}
use Rattle.enet_codec.specs.declared.header.Header.{Header}
use Rattle.enet_peer.specs.Peering.{Peering}
use Rattle.enet_peer.specs.Heading.{IsRead}
use Rattle.law_connection.specs.LinkSteps.{Has}
use Rattle.law_connection.specs.Law.{mtu_in}
use Rattle.enet_host.specs.Host.{Host, named}
use Rattle.enet_host.specs.Foretelling.{guest_name}
use Rattle.enet_host.specs.Opening.{host_basis}
use Rattle.enet_host.specs.Serving.{Served, served_of}
use Rattle.law_network.specs.Calls.{Call, Acts}
use Rattle.law_network.specs.Calls as call
use Rattle.law_network.specs.declared.mark.Mark.{Mark}
use Rattle.law_network.specs.Log.{Logged, ChannelPackets, with_packets, with_submitted_packet, with_taken}
use Rattle.law_network.specs.Marks.{Counts}
use Rattle.law_network.specs.Network.{HostEnd, Site, fresh_end, with_end, numbers_of, delivery_refusal}

pub data Happening : Type 0 where
  Calls : (call : Call) → Happening  -- its user or its service calls it
  Delivers : (k : ℕ) (answer : Received) → Happening  -- the network brings it datagram k of the other host, to which it answers this

-- the user of an end submitted a packet, which goes by this mtu
abbrev pub with_packet : ℕ → Packet → HostEnd → HostEnd
with_packet mtu q e = record e { mtu = mtu; channels = with_packets e.channels q.channel (with_submitted_packet q) }

-- the user of an end took an event, which may be a packet
abbrev pub packets_by : Event → List ChannelPackets → List ChannelPackets
packets_by (events.Receive name q) channels = with_packets channels q.channel (with_taken q)
packets_by _ channels = channels

abbrev pub with_event : Event → HostEnd → HostEnd
with_event event e = record e { channels = packets_by event e.channels; events = e.events ++ event ∷ [] }

-- it is an event of the end that it names
abbrev pub after_event : Event → List HostEnd → List HostEnd
after_event (events.Connect name info) ends = with_end (with_event (events.Connect name info)) name ends
after_event (events.Receive name q) ends = with_end (with_event (events.Receive name q)) name ends
after_event (events.Disconnect name info) ends = with_end (with_event (events.Disconnect name info)) name ends
after_event (events.Refused seat number why) ends = ends

-- the ends at a host after a call; an accepted Connect has the number of the next connection
abbrev pub ends_after : ℕ → Site → Call → List HostEnd
ends_after next s (call.Connect address channels info word (Ok name)) = s.ends ++ fresh_end next name ∷ []
ends_after next s (call.Submit name channel q (Ok done)) =
    with_end (with_packet (mtu_in (named s.host.slots name)) (record { channel = channel; flags = q.flags; body = q.body })) name s.ends
ends_after next s (call.NextEvent (Some event)) = after_event event s.ends
ends_after next s c = s.ends

-- a call that puts nothing out
abbrev pub Called : ℕ → Call → Site → Site → Type 0
Called next c old new = Acts c old.host new.host × (new ≡ record old { host = new.host; ends = ends_after next old c })

-- a call of service that gave a datagram: it is logged last, as one of the connection whose peer it names, and its commands are counted;
-- `far` has the greatest numbers that the other end of a connection sent
pub record Logs (far : ℕ → List ℕ) (gave : Served) (old new : Site) : Type 0 where
  pub own : HostEnd
  pub there : Has old.ends own
  pub name : own.name ≡ gave.name
  pub header : Header
  pub commands : List ℕ
  pub read : IsRead (take gave.len gave.buf) header commands
  pub greatest : List ℕ
  pub marks : List Mark
  pub counts : Counts (take gave.len gave.buf) own.greatest greatest (far own.connection) marks
  pub rest : new ≡ record old {
    host = new.host;
    log = old.log ++ (record { connection = own.connection; to = gave.address; peer = header.peer; text = take gave.len gave.buf; marks = marks }) ∷ [];
    ends = with_end (λ (e : HostEnd). record e { greatest = greatest }) gave.name old.ends;
  }

-- the end that begins where a host has a peer of this name, which it hadn't before
abbrev pub end_of_guest : ℕ → PeerRef → Option Peering → List HostEnd
end_of_guest x name None = []
end_of_guest x name (Some p) = fresh_end x name ∷ []

abbrev pub begun_by : ℕ → Option PeerRef → Host → List HostEnd
begun_by x None new = []
begun_by x (Some name) new = end_of_guest x name (named new.slots name)

-- the end of connection x that begins where a CONNECT from an address was answered: of the name that the next peer was to get by one
abbrev pub begun : ℕ → Addr → Host → Host → List HostEnd
begun x from old new = begun_by x (guest_name (host_basis old) from old.slots) new

-- a datagram of a host at this address comes
abbrev pub Brought : Addr → Logged → Received → Site → Site → Type 0
Brought from d answer old new =
    Acts (call.Receive from d.text answer) old.host new.host × (new ≡ record old { host = new.host; ends = old.ends ++ begun d.connection from old.host new.host })

-- a datagram is brought that was put out and is refused for no reason
abbrev pub BringsOne : Site → Option Logged → Received → Site → Site → Type 0
BringsOne from None answer old new = ⊥
BringsOne from (Some d) answer old new = (delivery_refusal from old (Some d) ≡ None) × Brought from.address d answer old new

-- what is around a host
pub record Around : Type 0 where
  pub count : ℕ  -- how many connections there have been
  pub is_host : Addr → Bool  -- at which addresses there are hosts; at all others there are strangers
  pub numbers : ℕ → List ℕ  -- the greatest numbers that the other end of a connection sent

-- a call of service that gave a datagram to an address: to a host it is logged, to a stranger it is of no connection
abbrev pub LogsIf : Bool → (ℕ → List ℕ) → Served → Site → Site → Type 0
LogsIf true far gave old new = Logs far gave old new
LogsIf false far gave old new = new ≡ record old { host = new.host }

-- one call of a host; its user asks the host `from` alone for a connection, and what comes otherwise than through the network's log
-- comes of a stranger
abbrev pub CallsAmong : Around → Site → Call → Site → Site → Type 0
CallsAmong w from (call.Connect address channels info word answer) old new =
    (address ≡ from.address) × Called w.count (call.Connect address channels info word answer) old new
CallsAmong w from (call.Receive address bytes answer) old new = (w.is_host address ≡ false) × Called w.count (call.Receive address bytes answer) old new
CallsAmong w from (call.Service (Some gave) buf) old new =
    Acts (call.Service (Some gave) buf) old.host new.host × LogsIf (w.is_host gave.1) w.numbers (served_of gave buf) old new
CallsAmong w from c old new = Called w.count c old new

-- one thing at a host among others: a call, or the network brings it a datagram of the host `from`
abbrev pub HappensAmong : Around → Site → Happening → Site → Site → Type 0
HappensAmong w from (Calls c) old new = CallsAmong w from c old new
HappensAmong w from (Delivers k answer) old new = BringsOne from (slice_get from.log k) answer old new

-- around a host that has one other there is no stranger
abbrev pub beside : ℕ → Site → Around
beside next other = record { count = next; is_host = λ a. true; numbers = numbers_of other }

-- one thing at a host with one other, `next` being the number of connections so far
abbrev pub Happens : ℕ → Site → Happening → Site → Site → Type 0
Happens next other what old new = HappensAmong (beside next other) other what old new

-- the number of connections after it
abbrev pub count_after : ℕ → Happening → ℕ
count_after next (Calls (call.Connect address channels info word (Ok name))) = next + 1
count_after next _ = next
