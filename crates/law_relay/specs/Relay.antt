-- What the relay makes of what its server's service told, for one peer.
use Rattle.std.specs.Prelude.{◌≡◌, ℕ, zero, suc, ◌<◌, ◌==◌, ◌&&◌, not, if◌then◌else◌, List, [], ◌∷◌, ◌++◌, ◌⊎◌, flat_map, Bool, Some, slice_get}
use Rattle.enet_codec.specs.declared.address.Addr.{Addr}
use Rattle.enet_codec.specs.declared.event.Event.{Event}
use Rattle.enet_codec.specs.declared.event.Event.TheVariants as events
use Rattle.enet_codec.specs.declared.event.PeerRef.{PeerRef}
use Rattle.enet_codec.specs.declared.packet.Packet.{Packet}
use Rattle.enet_submit.specs.declared.order.Order.{Order}
use Rattle.enet_submit.specs.declared.order.Order.TheVariants.{Disconnect}
use Rattle.enet_bridge.specs.Ends.{orders}
use Rattle.enet_service.specs.Queues.{given, accepted}
use Rattle.enet_turn.specs.Run.{all_gave, all_puts}
use Rattle.enet_chat.specs.Peers.{is_same, has}
use Rattle.enet_chat.specs.Chat.{noted}
use Rattle.enet_chat.specs.Relaying.{relayed_all, SameForEach}
use Rattle.law_service.specs.Told.{packet_in}
use Rattle.law_headline.specs.Page.{User, IsHeadline, Follows, came}
use Rattle.law_service.specs.EndToEnd.{rounds_of, Running, user_of}

-- orders that end connections, and nothing else
abbrev pub AreEnds : List Order → Type 0
AreEnds [] = Unit {0}
AreEnds (Disconnect peer how info ∷ os) = AreEnds os
AreEnds (o ∷ os) = ⊥

-- the third list has the orders of both others, each once, and those of each in their order
abbrev pub AreMerged : List Order → List Order → List Order → Type 0
AreMerged xs ys [] = (xs ≡ []) × (ys ≡ [])
AreMerged xs ys (z ∷ zs) = ((rest : List Order) × (xs ≡ z ∷ rest) × AreMerged rest ys zs) ⊎ ((rest : List Order) × (ys ≡ z ∷ rest) × AreMerged xs rest zs)

-- A server's service whose game thread is the relay: the events that this expanded, and the orders that it asked for (as `Serves` says of a
-- first run). Beside it the server was given orders that end connections. What the service was given, and what waits, are these and the
-- relay's
pub record Relaying (r : Running) : Type 0 where
  pub expanded : List Event
  pub backlog : List Event
  pub asked_for : List Order
  pub ordered : List Order
  pub waits : List Order
  pub events : accepted (all_puts (rounds_of r)) ≡ expanded ++ backlog
  pub for_each : SameForEach asked_for (relayed_all [] expanded)
  pub ends : AreEnds ordered
  pub orders_done : AreMerged asked_for ordered (orders (given (all_gave (rounds_of r))) ++ waits)

-- the packets of others on a channel that came while peer q was in the table
abbrev pub hears : PeerRef → ℕ → List PeerRef → Event → List Event
hears q channel peers (events.Receive p packet) = if packet.channel == channel && (has peers q && not (is_same q p)) then events.Receive p packet ∷ [] else []
hears q channel peers e = []

abbrev pub heard : PeerRef → ℕ → List PeerRef → List Event → List Event
heard q channel peers [] = []
heard q channel peers (e ∷ es) = hears q channel (noted peers e) e ++ heard q channel (noted peers e) es

-- on channel 0 they go reliably (1), on channel 1 unreliably
abbrev pub chat_flags : ℕ → ℕ
chat_flags zero = 1
chat_flags (suc n) = 0

abbrev pub as_chat : ℕ → Event → List Packet
as_chat channel (events.Receive p packet) = (record { channel = channel; flags = chat_flags channel; body = packet.body }) ∷ []
as_chat channel e = []

abbrev pub chat_for : PeerRef → ℕ → List Event → List Packet
chat_for q channel es = flat_map (as_chat channel) (heard q channel [] es)

-- what the service was given for a peer, and what waits, is the chat for it
abbrev pub RelayRule : Type 0
RelayRule = (r : Running) (l : Relaying r) (q : PeerRef) (channel : ℕ) → channel < 2
    → flat_map (packet_in q channel) (orders (given (all_gave (rounds_of r)))) ++ flat_map (packet_in q channel) l.waits ≡ chat_for q channel l.expanded

-- a subsequence
abbrev pub IsPart : {X : Type 0} → List X → List X → Type 0
IsPart [] ys = Unit {0}
IsPart (x ∷ xs) [] = ⊥
IsPart (x ∷ xs) (y ∷ ys) = ((x ≡ y) × IsPart xs ys) ⊎ IsPart (x ∷ xs) ys

-- what client j takes on a channel follows the chat for it, where no order for it was refused: the packets of the others, of the events that the
-- server took, each once and in order; and of each other client these follow what that submitted (`IsHeadline`)
abbrev pub BetweenClients : Type 0
BetweenClients = (hosts : Addr → Bool) (server : Running) (l : Relaying server) (clients : ℕ → User) (asked : List (ℕ × PeerRef)) → (h : IsHeadline (user_of hosts server) clients asked)
    → (x j : ℕ) (there q : PeerRef) → slice_get asked x ≡ Some (j, there) → h.here x ≡ Some q → (channel : ℕ) → channel < 2
    → (user_of hosts server).submitted q channel ≡ flat_map (packet_in q channel) (orders (given (all_gave (rounds_of server))))
    → Follows (chat_for q channel l.expanded) (came channel ((clients j).taken there)) × IsPart (heard q channel [] l.expanded) l.expanded
