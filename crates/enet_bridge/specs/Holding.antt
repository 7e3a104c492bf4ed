-- What a game thread holds.
use Rattle.std.specs.Prelude.{List, ◌++◌}
use Rattle.crossbeam_queue.specs.Fifo.{Held}
use Rattle.enet_submit.specs.declared.order.Order.{Order}
use Rattle.enet_submit.specs.declared.order.Submission.{Submission}
use Rattle.enet_submit.specs.declared.queue.SubmitQueue.{SubmitQueue}
use Rattle.enet_submit.specs.Words.{sent, capacity_of, SeatSeesIn}
use Rattle.enet_events.specs.declared.numbered.Numbered.{Numbered}
use Rattle.enet_events.specs.Words.{Queue, TakerState, TakerFits}
use Rattle.enet_bridge.specs.declared.order_sender.OrderSender.{OrderSender}
use Rattle.enet_bridge.specs.declared.event_receiver.EventReceiver.{EventReceiver}
use Rattle.enet_bridge.specs.Ends.{orders}

-- the queues that they belong to
abbrev pub sender_queue : OrderSender → SubmitQueue
sender_queue sender = sender.queue.now

abbrev pub receiver_queue : EventReceiver → Queue
receiver_queue receiver = receiver.queue.now

-- the orders that wait at an order sender
abbrev pub waiting_at : OrderSender → List Order
waiting_at sender = sender.waiting.items

-- what the seat of an order sender submitted
abbrev pub submitted_at : OrderSender → List Submission
submitted_at sender = sent sender.seat

-- what an order sender was asked: what its seat submitted, and then what waits
abbrev pub asked : OrderSender → List Order
asked sender = orders (submitted_at sender) ++ waiting_at sender

-- a state of the queue in which all its places are taken, each by an order or by packets for several peers, and what the seat submitted is
-- just its part of all that was taken and is held
abbrev pub FoundFull : OrderSender → Type 0
FoundFull sender = Held (capacity_of (sender_queue sender)) (SeatSeesIn (sender_queue sender) sender.seat)

-- by what an event receiver takes
abbrev pub taker_of : EventReceiver → TakerState
taker_of receiver = receiver.taker

-- what an event receiver took, in order
abbrev pub received : EventReceiver → List Numbered
received receiver = (taker_of receiver).taken

-- a state of the queue in which nothing is held, and what the event receiver took is just its part of all that was posted
abbrev pub FoundNone : EventReceiver → Type 0
FoundNone receiver = Held 0 (λ held. (posted : List Numbered) × TakerFits (taker_of receiver) posted held)
