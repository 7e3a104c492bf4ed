-- What a client's game thread does, and how its queues are settled.
use Rattle.std.specs.Prelude.{◌≡◌, ℕ, ◌<◌, List, [], ◌++◌, length, slice_index_or}
use Rattle.enet_codec.specs.declared.event.Event.{Event}
use Rattle.enet_submit.specs.declared.order.Order.{Order}
use Rattle.enet_submit.specs.declared.queue.SubmitQueue.{SubmitQueue}
use Rattle.enet_submit.specs.declared.token.Drain.{Drain}
use Rattle.enet_submit.specs.Words.{IsFinishedOf, all_sent, taken}
use Rattle.enet_events.specs.Words.{PosterState, QueueId}
use Rattle.enet_bridge.specs.Ends.{orders}
use Rattle.enet_bridge.specs.Holding.{sender_queue, receiver_queue, asked, received}
use Rattle.enet_turn.specs.Counts.{stopped}
use Rattle.enet_chat.specs.Relaying.{events}
use Rattle.enet_service.specs.declared.settling.Returned.{Returned}
use Rattle.enet_demo.specs.declared.client.Guest.{Guest}
use Rattle.enet_demo.specs.declared.demonstration.Demonstration.{Demonstration}
use Rattle.enet_demo.specs.declared.orders.Plan.{Plan}
use Rattle.enet_demo.specs.declared.stage.Stage.{Stage}
use Rattle.enet_demo.specs.declared.stage.Stage.TheVariants.{Alone}
use Rattle.enet_demo.specs.declared.player.Player.{Player}
use Rattle.enet_demo.specs.declared.player.Played.{Played}
use Rattle.enet_demo.specs.declared.player.Visit.{Visit}
use Rattle.enet_demo.specs.Plans.{asks}
use Rattle.enet_demo.specs.Visits.{first_peer, packets, peer_of, IsToldBy, plan_of}

-- a client that takes part by this plan for so many turns
pub record IsGuest (plan : Plan) (turns : ℕ) (guest : Guest) : Type 0 where
  pub plan_is : guest.part.plan ≡ plan
  pub turns_are : guest.part.turns ≡ turns

-- the clients of these numbers, one after another
abbrev pub AreGuests : Demonstration → List Guest → Type 0
AreGuests shown guests = (length guests ≡ shown.clients) × ((k : ℕ) (d : Guest) → k < shown.clients → IsGuest (plan_of shown k) shown.turns (slice_index_or guests k d))

-- the events that a player took
abbrev pub told : Player → List Event
told player = events (received player.receiver)

-- the same client between the same queues
abbrev pub IsSame : Player → Player → Type 0
IsSame old new = (new.plan ≡ old.plan) × (sender_queue new.sender ≡ sender_queue old.sender) × (receiver_queue new.receiver ≡ receiver_queue old.receiver)

-- a player who asked for nothing and took nothing
pub record IsFresh (player : Player) : Type 0 where
  pub digit : player.plan.number < 10
  pub asked_none : asked player.sender ≡ []
  pub told_none : told player ≡ []
  pub stage : player.stage ≡ Alone
  pub received_none : player.received ≡ 0

-- a player who asked for the connection, and knows what it was told
pub record HasPlayed (player : Player) : Type 0 where
  pub digit : player.plan.number < 10
  pub connected : peer_of player.stage ≡ first_peer (told player)
  pub asked_for : asked player.sender ≡ asks player.plan player.stage
  pub received_all : player.received ≡ stopped (packets (told player))

-- what a game thread hands back, of these queues: the visit tells what it took, and it submitted a front of what a client asks for
pub record HasVisited (queue : SubmitQueue) (id : QueueId) (plan : Plan) (played : Played) : Type 0 where
  pub stage : Stage
  pub left : List Order
  pub connected : peer_of stage ≡ first_peer (events played.taker.taken)
  pub asked_for : asks plan stage ≡ orders (all_sent played.seat) ++ left
  pub tells : IsToldBy (events played.taker.taken) played.visit
  pub seat : IsFinishedOf queue played.seat
  pub taker : played.taker.queue ≡ id

-- what both threads hand back of the queues
abbrev pub returned : Played → Drain → PosterState → Returned
returned played drain poster = record { drain = drain; poster = poster; seat = played.seat; taker = played.taker }

-- all that was posted was taken, and what the drain took is a front of what was submitted
pub record IsSettled (played : Played) (drain : Drain) (poster : PosterState) (visit : Visit) : Type 0 where
  pub visit_is : visit ≡ played.visit
  pub all_taken : played.taker.taken ≡ poster.posted
  pub rest : List Order
  pub front : orders (all_sent played.seat) ≡ orders (taken drain) ++ rest
