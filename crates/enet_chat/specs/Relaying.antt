-- What the relay's thread makes of the events that it takes.
use Rattle.std.specs.Prelude.{◌≡◌, ◌⊎◌, ℕ, ◌<◌, ◌≤◌, Bool, true, List, [], ◌∷◌, ◌++◌, map, length}
use Rattle.std.specs.List.{filter}
use Rattle.enet_codec.specs.declared.event.PeerRef.{PeerRef}
use Rattle.enet_codec.specs.declared.event.Event.{Event}
use Rattle.enet_submit.specs.declared.order.Order.{Order}
use Rattle.enet_submit.specs.declared.order.Order.TheVariants as order
use Rattle.enet_submit.specs.Words.{limit_of}
use Rattle.enet_events.specs.declared.numbered.Numbered.{Numbered}
use Rattle.enet_chat.specs.Peers.{is_same}
use Rattle.enet_chat.specs.Chat.{noted, relayed}
use Rattle.enet_bridge.specs.declared.order_sender.OrderSender.{OrderSender}
use Rattle.enet_bridge.specs.declared.event_receiver.EventReceiver.{EventReceiver}
use Rattle.enet_bridge.specs.Ends.{orders}
use Rattle.enet_bridge.specs.Holding.{sender_queue, receiver_queue, waiting_at, submitted_at, asked, received, FoundFull}
use Rattle.enet_chat.specs.declared.relaying.Relay.{Relay}

-- the peers that a relay knows, the events that it took and has not expanded, and its ends of the queues
abbrev pub peers_of : Relay → List PeerRef
peers_of relay = relay.table

abbrev pub backlog_of : Relay → List Event
backlog_of relay = relay.backlog.items

abbrev pub sender_of : Relay → OrderSender
sender_of relay = relay.sender

abbrev pub receiver_of : Relay → EventReceiver
receiver_of relay = relay.receiver

-- events are left only where orders wait
abbrev pub AreBehind : List Event → List Order → Type 0
AreBehind backlog waiting = (backlog ≡ []) ⊎ (0 < length waiting)

-- events are left only where there are so many orders
abbrev pub AreFarBehind : ℕ → List Event → List Order → Type 0
AreFarBehind many backlog orders = (backlog ≡ []) ⊎ (many ≤ length orders)

-- no event is left and no order waits; or some order does, and the queue was found full
abbrev pub IsThrough : Relay → Type 0
IsThrough relay =
    ((backlog_of relay ≡ []) × (waiting_at (sender_of relay) ≡ []))
    ⊎ ((0 < length (waiting_at (sender_of relay))) × FoundFull (sender_of relay))

-- its seat submitted as many orders as it may
abbrev pub IsSpent : Relay → Type 0
IsSpent relay = length (submitted_at (sender_of relay)) ≡ limit_of (sender_queue (sender_of relay))

-- why orders wait: the queue was found full, or the seat is spent
abbrev pub IsHeldUp : Relay → Type 0
IsHeldUp relay = FoundFull (sender_of relay) ⊎ IsSpent relay

-- no order waits but for that
abbrev pub HasSubmitted : Relay → Type 0
HasSubmitted relay = (waiting_at (sender_of relay) ≡ []) ⊎ IsHeldUp relay

-- events without their numbers
abbrev pub events : List Numbered → List Event
events numbered = map (λ x. x.event) numbered

-- the peers after these events
abbrev pub noted_all : List PeerRef → List Event → List PeerRef
noted_all peers [] = peers
noted_all peers (e ∷ es) = noted_all (noted peers e) es

-- the orders that these events give, each event over the peers after it
abbrev pub relayed_all : List PeerRef → List Event → List Order
relayed_all peers [] = []
relayed_all peers (e ∷ es) = relayed (noted peers e) e ++ relayed_all (noted peers e) es

-- whether an order is for this peer. A Connect, which names no peer, is for each of them
abbrev pub is_for : PeerRef → Order → Bool
is_for peer (order.Connect addr channels info word) = true
is_for peer (order.Submit to channel flags body) = is_same to peer
is_for peer (order.Disconnect to how info) = is_same to peer

-- those of the orders that are for this peer, in their order
abbrev pub those_for : PeerRef → List Order → List Order
those_for peer orders = filter (λ o. is_for peer o) orders

-- For every peer the same orders in the same order. So none is lost or doubled, as each is for some peer; only between orders
-- for different peers the order may be another
abbrev pub SameForEach : List Order → List Order → Type 0
SameForEach orders others = (peer : PeerRef) → those_for peer orders ≡ those_for peer others

-- between the same queues
abbrev pub SameQueues : Relay → Relay → Type 0
SameQueues old new = (sender_queue (sender_of new) ≡ sender_queue (sender_of old)) × (receiver_queue (receiver_of new) ≡ receiver_queue (receiver_of old))

-- From one state of a relay to a later one: it took these events, and expanded those, in the order in which they were taken.
-- The table is what those made of it. It asked for these orders behind those asked for before: for every peer they are what the
-- expanded events give for it, in order
pub record Relays (old new : Relay) : Type 0 where
  pub taken : List Event
  pub expanded : List Event
  pub asked_for : List Order
  pub took : events (received (receiver_of new)) ≡ events (received (receiver_of old)) ++ taken
  pub in_order : backlog_of old ++ taken ≡ expanded ++ backlog_of new
  pub peers : peers_of new ≡ noted_all (peers_of old) expanded
  pub orders : asked (sender_of new) ≡ asked (sender_of old) ++ asked_for
  pub for_each : SameForEach asked_for (relayed_all (peers_of old) expanded)
  pub same_queues : SameQueues old new
