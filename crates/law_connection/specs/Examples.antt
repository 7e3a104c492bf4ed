-- Short runs that do happen, so that the laws speak of something.
use Rattle.std.specs.Prelude.{◌≡◌, List, [], ◌∷◌, map, Some}
use Rattle.enet_codec.specs.declared.packet.Packet.{Packet}
use Rattle.enet_codec.specs.declared.command.Offer.{Offer}
use Rattle.enet_connect.specs.declared.terms.Terms.{Terms}
use Rattle.enet_peer.specs.declared.parts.Limits.{Limits}
use Rattle.enet_peer.specs.declared.parts.PeerEvent.TheVariants as told
use Rattle.enet_peer.specs.declared.parts.PeerState.TheVariants as state
use Rattle.enet_peer.specs.Peering.{Peering}
use Rattle.law_connection.specs.Connection.{Put, End, Connection}
use Rattle.law_connection.specs.Steps.{Side, Event, Runs, JoinedEnd, joined_pair, asking_pair}

abbrev pub example_terms : Terms
example_terms = record { slot = 0; channels = 1; mtu = 576; window = 65536; incoming_session = 0; outgoing_session = 0; throttle_interval = 5000; acceleration = 2; deceleration = 2; connect_id = 0 }

abbrev pub example_limits : Limits
example_limits = record { max_packet = 1000; max_waiting = 1000; incoming = 0; outgoing = 0 }

-- a reliable packet
abbrev pub example_packet : Packet
example_packet = record { channel = 0; flags = 1; body = 7 ∷ 8 ∷ [] }

abbrev pub example_offer : Offer
example_offer = record { outgoing_peer = 0; incoming_session = 255; outgoing_session = 255; mtu = 1000; window = 65536; channels = 1; incoming_bandwidth = 0; outgoing_bandwidth = 0; throttle_interval = 5000; acceleration = 2; deceleration = 2; connect_id = 9; info = 3 }

abbrev pub example_end : JoinedEnd
example_end = record { now = 0; terms = example_terms; limits = example_limits }

-- this holds after some run of a joined pair
abbrev pub OfSomeJoined : (Connection → Type 0) → Type 0
OfSomeJoined P = (events : List (Side × Event)) × (c : Connection) × Runs events (joined_pair example_end example_end) c × P c

-- or of a client that asks and a host that answers
abbrev pub OfSomeAsking : (Connection → Type 0) → Type 0
OfSomeAsking P = (events : List (Side × Event)) × (c : Connection) × Runs events (asking_pair 0 0 example_offer example_limits) c × P c

-- a packet was submitted at the one end and taken at the other
abbrev pub HasTaken : Connection → Type 0
HasTaken c = (c.one.submitted ≡ example_packet ∷ []) × (c.two.events ≡ told.Receive example_packet ∷ [])

-- two commands went in one datagram, and both have the mark 2
abbrev pub HasOneMark : Connection → Type 0
HasOneMark c = map (λ (p : Put). p.sent_then) c.one.log ≡ 2 ∷ 2 ∷ []

abbrev pub IsConnected : End → Type 0
IsConnected e = (p : Peering) × (e.peer ≡ Some p) × (p.state ≡ state.Connected)

-- both ends are connected
abbrev pub HasConnected : Connection → Type 0
HasConnected c = IsConnected c.one × IsConnected c.two
