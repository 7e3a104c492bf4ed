-- What the two threads of a run begin with, and what they leave.
use Rattle.std.specs.Prelude.{◌≡◌, ◌≤◌, [], ◌++◌, length, Some, None}
use Rattle.enet_codec.specs.declared.refusal.Refusal.{Refusal}
use Rattle.enet_submit.specs.declared.token.Drain.{Drain}
use Rattle.enet_submit.specs.Words.{all_sent, taken}
use Rattle.enet_events.specs.Words.{PosterState}
use Rattle.enet_bridge.specs.declared.order_sender.OrderSender.{OrderSender}
use Rattle.enet_bridge.specs.declared.event_receiver.EventReceiver.{EventReceiver}
use Rattle.enet_bridge.specs.Ends.{orders}
use Rattle.enet_bridge.specs.Holding.{sender_queue, asked}
use Rattle.enet_chat.specs.declared.relaying.RelayParts.{RelayParts}
use Rattle.enet_chat.specs.declared.relaying.Relay.{Relay}
use Rattle.enet_chat.specs.Relaying.{peers_of, backlog_of, sender_of, receiver_of}
use Rattle.enet_service.specs.declared.settling.Returned.{Returned}
use Rattle.enet_serve.specs.declared.threads.Carryover.{Carryover}

-- a relay that goes on from what was kept: of this order sender the orders that were kept are asked
pub record IsBegun (kept : Carryover) (sender : OrderSender) (receiver : EventReceiver) (relay : Relay) : Type 0 where
  pub peers : peers_of relay ≡ kept.table
  pub backlog : backlog_of relay ≡ kept.backlog.items
  pub orders_asked : asked (sender_of relay) ≡ asked sender ++ kept.orders.items
  pub queue : sender_queue (sender_of relay) ≡ sender_queue sender
  pub receiver_is : receiver_of relay ≡ receiver

-- what both threads hand back of the queues
abbrev pub returned : RelayParts → Drain → PosterState → Returned
returned parts drain poster = record { drain = drain; poster = poster; seat = parts.seat; taker = parts.taker }

-- what is kept: all that was posted was taken, and what was asked for was given to the turns or is kept
pub record IsLeft (parts : RelayParts) (drain : Drain) (poster : PosterState) (kept : Carryover) : Type 0 where
  pub peers : kept.table ≡ parts.table
  pub backlog : kept.backlog.items ≡ parts.backlog.items
  pub more_orders : length parts.orders.items ≤ length kept.orders.items
  pub all_taken : parts.taker.taken ≡ poster.posted
  pub orders_kept : orders (all_sent parts.seat) ++ parts.orders.items ≡ orders (taken drain) ++ kept.orders.items
  pub settled : kept.unsettled ≡ None

-- nothing is kept, for this reason
pub record IsNothing (kept : Carryover) (why : Refusal) : Type 0 where
  pub peers : kept.table ≡ []
  pub backlog : kept.backlog.items ≡ []
  pub orders_are : kept.orders.items ≡ []
  pub unsettled : kept.unsettled ≡ Some why
