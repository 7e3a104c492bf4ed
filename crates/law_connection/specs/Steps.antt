-- What can happen to a connection, one thing after another. Each happens at one end; where memory is wanting nothing happens.
use Rattle.std.specs.Prelude.{◌≡◌, Bool, ℕ, ◌<◌, true, false, List, [], ◌∷◌, ◌++◌, length, map, Option, Some, None, IsTrue}
use Rattle.enet_codec.specs.declared.packet.Packet.{Packet}
use Rattle.enet_codec.specs.declared.command.Offer.{Offer}
use Rattle.enet_codec.specs.Message.{Message, acknowledge, connect}
use Rattle.enet_fragment.specs.declared.data.DataCommand.{DataCommand}
use Rattle.enet_fragment.specs.DataCommand.{data_of}
use Rattle.enet_connect.specs.declared.terms.Terms.{Terms}
use Rattle.enet_connect.specs.declared.server.Server.{Server}
use Rattle.enet_connect.specs.Terms.{is_channel_count}
use Rattle.law_connection.specs.Link.{is_late}
use Rattle.law_connection.specs.LinkSteps.{Has}
use Rattle.enet_outbox.specs.Emission.{filled}
use Rattle.enet_peer.specs.declared.parts.Limits.{Limits}
use Rattle.enet_peer.specs.declared.parts.Offsets.{Offsets}
use Rattle.enet_peer.specs.declared.parts.PeerEvent.{PeerEvent}
use Rattle.enet_peer.specs.declared.parts.PeerState.{PeerState}
use Rattle.enet_peer.specs.Peering.{Peering, joined, connecting, answering}
use Rattle.enet_peer.specs.Endings.{freed}
use Rattle.enet_peer.specs.Refusing.{heeded, is_turned_away, told_again}
use Rattle.enet_peer.specs.Calls.{Leave, submission_refusal, submitted, pace_of, gone_on, left, leave_by_asking, leave_now, leave_later, moved, next_event, is_answering, is_connected, with_bandwidth, with_throttle, with_throttle_limit, with_ping_interval, with_timeout}
use Rattle.law_connection.specs.Connection.{Put, End, Connection, sent_on, put_by}

-- how the user ends a connection
pub data Way : Type 0 where
  Asking : Way
  Now : Way
  Later : Way

abbrev pub leave_by : Way → PeerState → Leave
leave_by Asking s = leave_by_asking s
leave_by Now s = leave_now s
leave_by Later s = leave_later s

-- what the user sets
pub data Setting : Type 0 where
  Bandwidth : (incoming outgoing : ℕ) → Setting
  Throttle : (interval acceleration deceleration : ℕ) → Setting
  ThrottleLimit : (limit : ℕ) → Setting
  PingInterval : (ms : ℕ) → Setting
  Timeout : (limit minimum maximum : ℕ) → Setting

abbrev pub with_setting : Setting → Peering → Peering
with_setting (Bandwidth incoming outgoing) p = with_bandwidth p incoming outgoing
with_setting (Throttle interval acceleration deceleration) p = with_throttle p interval acceleration deceleration
with_setting (ThrottleLimit limit) p = with_throttle_limit p limit
with_setting (PingInterval ms) p = with_ping_interval p ms
with_setting (Timeout limit minimum maximum) p = with_timeout p limit minimum maximum

-- the throttle's numbers are told, so the peer must be connected
abbrev pub MaySet : Setting → Peering → Type 0
MaySet (Throttle interval acceleration deceleration) p = is_connected p.state ≡ true
MaySet _ p = Unit {0}

pub data Event : Type 0 where
  Answer : (put : Put) (offer : Offer) (now : ℕ) (offsets : Offsets) (server : Server) (limits : Limits) → Event  -- CONNECT comes to a host that has no peer yet, which adds these to its sent times and numbers
  Submit : (packet : Packet) → Event
  Emit : (now : ℕ) → Event  -- a datagram is put out, if there is anything to send
  Come : (put : Put) (now : ℕ) (sent : Option ℕ) → Event  -- a command that the other end put out comes, in a datagram that tells this sent time or none
  Tick : (now : ℕ) → Event
  Take : Event  -- the user takes the next event
  Disconnect : (way : Way) (info : ℕ) → Event
  Set : (setting : Setting) → Event
  GiveWay : Event  -- a peer that waits for its client is let go, since its host gives its slot to another
  TellAgain : Event  -- a datagram comes to a peer that was refused, and it is told again that the host is full

abbrev pub has_peer : End → Peering → Type 0
has_peer e p = e.peer ≡ Some p

abbrev pub with_peer : End → Peering → End
with_peer e p = record e { peer = Some p }

-- a command of the other end's log. Where it is sequenced data of a channel below 255, or acknowledges a command of one, it isn't over 32,768 numbers late
pub record InTime (own other : End) (put : Put) : Type 0 where
  pub logged : Has other.log put
  pub of_data : put.message.head.channel < 255 → (c : DataCommand) → data_of put.message ≡ Some c → is_late (sent_on put.message.head.channel other) put.sent_then c.number ≡ false
  pub of_acknowledgement : put.message.head.channel < 255 → (number time : ℕ) → put.message.body ≡ acknowledge number time → is_late (sent_on put.message.head.channel own) put.sent_then number ≡ false

abbrev pub with_submission : End → Peering → Packet → End
with_submission e p q = record e { peer = Some (submitted p q.channel (record { flags = q.flags; body = q.body })); submitted = e.submitted ++ q ∷ [] }

-- what is put out stands in the log with how far the numbers have come
abbrev pub with_messages : End → End → List Message → End
with_messages own other ms =
    record own { log = own.log ++ map (put_by (record own { log = own.log ++ map (λ (m : Message). record { message = m; sent_then = 0 }) ms }) other) ms }

abbrev pub with_emission : End → End → Peering → ℕ → End
with_emission own other p now =
    with_peer (with_messages own other (filled (pace_of p now) p.outbox).messages) (gone_on (record p { outbox = (filled (pace_of p now) p.outbox).outbox }))

-- one event at one end, the other being as it is
abbrev pub Happens : End → End → Event → End → Type 0
Happens own other (Answer put offer now offsets server limits) new =
    (own.peer ≡ None) × Has other.log put × (put.message.body ≡ connect offer) × IsTrue (is_channel_count offer.channels) × (new ≡ with_peer own (answering now offsets offer server limits))
Happens own other (Submit q) new =
    (p : Peering) × has_peer own p × (submission_refusal p q.channel (length q.body) ≡ None) × (new ≡ with_submission own p q)
Happens own other (Emit now) new = (p : Peering) × has_peer own p × (new ≡ with_emission own other p now)
Happens own other (Come put now sent) new =
    (p : Peering) × has_peer own p × InTime own other put × (full : Bool) × (new ≡ with_peer own (heeded full p now sent put.message).after)
Happens own other (Tick now) new = (p : Peering) × has_peer own p × (short : Bool) × (new ≡ with_peer own (moved short p now))
Happens own other Take new =
    (p q : Peering) × (e : PeerEvent) × has_peer own p × (next_event p ≡ Some (record { event = e; after = q })) × (new ≡ record own { peer = Some q; events = own.events ++ e ∷ [] })
Happens own other (Disconnect way info) new =
    (p q : Peering) × has_peer own p × (left (leave_by way p.state) p info ≡ Some q) × (new ≡ with_peer own q)
Happens own other (Set setting) new = (p : Peering) × has_peer own p × MaySet setting p × (new ≡ with_peer own (with_setting setting p))
Happens own other GiveWay new = (p : Peering) × has_peer own p × (is_answering p.state ≡ true) × (new ≡ with_peer own (freed p))
Happens own other TellAgain new = (p : Peering) × has_peer own p × (is_turned_away p ≡ true) × (new ≡ with_peer own (told_again p))

pub data Side : Type 0 where
  One : Side
  Two : Side

abbrev pub HappensAt : Side → Event → Connection → Connection → Type 0
HappensAt One e c d = Happens c.one c.two e d.one × (d.two ≡ c.two)
HappensAt Two e c d = Happens c.two c.one e d.two × (d.one ≡ c.one)

-- events, one after another
abbrev pub Runs : List (Side × Event) → Connection → Connection → Type 0
Runs [] c d = c ≡ d
Runs (e ∷ es) c d = (b : Connection) × HappensAt e.0 e.1 c b × Runs es b d

abbrev pub no_end : End
no_end = record { peer = None; log = []; submitted = []; events = [] }

-- what an end goes by that is connected from the start: its clock then, in milliseconds, its terms, and what its host allows
pub record JoinedEnd : Type 0 where
  pub now : ℕ
  pub terms : Terms
  pub limits : Limits

-- a pair that is connected from the start
abbrev pub joined_pair : (one two : JoinedEnd) → Connection
joined_pair one two = record {
  one = with_peer no_end (joined one.now one.terms one.limits);
  two = with_peer no_end (joined two.now two.terms two.limits);
}

-- a client that asks and adds so much to its sent times, and a host that knows nothing of it
abbrev pub asking_pair : (now offset : ℕ) → Offer → Limits → Connection
asking_pair now offset offer limits = record { one = with_peer no_end (connecting now offset offer limits); two = no_end }
