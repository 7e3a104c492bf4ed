-- What a service's thread does in a run.
use Rattle.std.specs.Prelude.{◌≡◌, ◌⊎◌, ℕ, ◌+◌, ◌*◌, ◌≤◌, ◌<◌, nat_lt, if◌then◌else◌, min, List, [], ◌∷◌, ◌++◌, Option, Some, None, length}
use Rattle.std.specs.List.{All}
use Rattle.enet_codec.specs.declared.config.Config.{Config}
use Rattle.enet_codec.specs.declared.event.DisconnectMode.{DisconnectMode}
use Rattle.enet_codec.specs.declared.event.PeerRef.{PeerRef}
use Rattle.enet_codec.specs.declared.refusal.Refusal.{Refusal}
use Rattle.enet_codec.specs.declared.refusal.Refusal.TheVariants.{Memory, BadConfig, StillHeld}
use Rattle.enet_submit.specs.declared.order.Order.TheVariants.{Disconnect}
use Rattle.enet_submit.specs.declared.token.Drain.{Drain}
use Rattle.enet_submit.specs.declared.queue.SubmitQueue.{SubmitQueue}
use Rattle.enet_submit.specs.declared.order.Order.{Order}
use Rattle.enet_submit.specs.declared.order.Submission.{Submission}
use Rattle.enet_submit.specs.History.{of, IsHistory}
use Rattle.enet_submit.specs.Words.{IsSeatOf, IsDrainOf, IsFinishedOf, seats_of, sent, all_sent, taken}
use Rattle.enet_events.specs.Words.{Queue, PosterState, TakerFits}
use Rattle.enet_wire.specs.Wires.{also, unless_spent}
use Rattle.enet_wire.specs.declared.told.Told.{Told}
use Rattle.enet_bridge.specs.declared.source.QueueSource.{QueueSource}
use Rattle.enet_bridge.specs.declared.sink.QueueSink.{QueueSink}
use Rattle.enet_bridge.specs.Ends.{orders}
use Rattle.enet_bridge.specs.Serving.{queue_of, drain_of, poster_of}
use Rattle.enet_outbox.specs.declared.parts.SendLimit.{SendLimit}
use Rattle.enet_host.specs.Host.{Host}
use Rattle.enet_host.specs.Opening.{opened}
use Rattle.enet_turn.specs.declared.report.Report.{Report}
use Rattle.enet_turn.specs.Hosting.{host_calls, AppliesOrder}
use Rattle.enet_turn.specs.Phases.{Chain, nothing_waits}
use Rattle.enet_service.specs.Queues.{given, accepted, DrainsOn, PostsOn}
use Rattle.enet_turn.specs.Turn.{Round}
use Rattle.enet_turn.specs.Run.{Rounds, IsSound, AreCut, all_gave, all_told, all_puts, total}
use Rattle.enet_service.specs.declared.queues.Ends.{Ends}
use Rattle.enet_service.specs.declared.settling.Returned.{Returned}
use Rattle.enet_service.specs.declared.run_length.RunLength.{RunLength}
use Rattle.enet_service.specs.declared.run_length.RunLength.TheVariants.{Turns, Time}
use Rattle.enet_turn.specs.declared.service.Service.{Service}

-- how many places a queue may have
abbrev pub IsCapacity : ℕ → Type 0
IsCapacity capacity = (1 ≤ capacity) × (capacity ≤ 65536)

-- why there are no queues of so many places
abbrev pub AreNotOpened : ℕ → Refusal → Type 0
AreNotOpened capacity why = (why ≡ Memory) ⊎ ((why ≡ BadConfig) × ¬ (IsCapacity capacity))

-- why a queue was not settled
abbrev pub IsNotSettled : Refusal → Type 0
IsNotSettled why = (why ≡ Memory) ⊎ (why ≡ StillHeld)

-- two queues with all their ends, one seat and one taker, through which nothing went
pub record AreNew (queue : SubmitQueue) (events : Queue) (ends : Ends) : Type 0 where
  pub seat : IsSeatOf queue ends.seat × (sent ends.seat ≡ [])
  pub drain : IsDrainOf queue ends.drain × (taken ends.drain ≡ [])
  pub one_seat : seats_of queue ≡ 1
  pub poster : (ends.poster.queue ≡ events.id) × (ends.poster.posted ≡ [])
  pub taker : (ends.taker.queue ≡ events.id) × (ends.taker.taken ≡ [])
  pub one_taker : events.id.takers ≡ 1

-- a service that did nothing yet: its host as opened, and nothing waits
abbrev pub beginning : Config → Service Host
beginning config = record { host = opened config; waiting = nothing_waits }

-- the limit that a host has once this one is set, if there is one to be set
abbrev pub limit_after : Option SendLimit → Option SendLimit → Option SendLimit
limit_after None limit = limit
limit_after (Some old) None = Some old
limit_after (Some old) (Some limit) = Some limit

-- a service whose host has this limit on what it sends from now on, if there is one to be set
abbrev pub limited : Option SendLimit → Service Host → Service Host
limited limit s = record s { host = record s.host { send_limit = limit_after s.host.send_limit limit } }

-- so few orders were taken and events told that a run for a time may go on
abbrev pub AreFew : Report → Type 0
AreFew sums = (sums.orders < 2147483648) × (sums.events < 2147483648)

-- how many turns a run for a time takes at once, after so many took so many milliseconds
abbrev pub next_turns : ℕ → ℕ → ℕ
next_turns turns ms = if nat_lt 400 ms then 1 else min (2 * turns) 64

-- the turns of a run for a time: some at once, 64 at most, and no more once there were many orders or events
pub record LastsForTime (rounds : List Round) : Type 0 where
  pub before : List Round
  pub last : List Round
  pub all : rounds ≡ before ++ last
  pub some : 1 ≤ length last
  pub most : length last ≤ 64
  pub few : AreFew (total before)

-- how many turns a run has: as many as it was told, or those of a time
abbrev pub Lasts : RunLength → List Round → Type 0
Lasts (Turns n) rounds = length rounds ≡ n
Lasts (Time length_of_time) rounds = LastsForTime rounds

-- no more turns than a run for a time has: then 64 at most, and none of these once there were many orders or events
pub record LastsForTimeAtMost (rounds : List Round) : Type 0 where
  pub before : List Round
  pub last : List Round
  pub all : rounds ≡ before ++ last
  pub most : length last ≤ 64
  pub few : AreFew (total before)

-- how many turns a run has at most
abbrev pub LastsAtMost : RunLength → List Round → Type 0
LastsAtMost (Turns n) rounds = length rounds ≤ n
LastsAtMost (Time length_of_time) rounds = LastsForTimeAtMost rounds

-- turns of a service over our host, one after another
abbrev pub TakesTurns : Service Host → List Round → Service Host → Type 0
TakesTurns old rounds new = Rounds host_calls old rounds new

-- a service, its queue of orders with the drain, its end of the queue of events, what its wire told of its calls, and how often that failed
pub record Standing : Type 0 where
  pub service : Service Host
  pub queue : SubmitQueue
  pub drain : Drain
  pub poster : PosterState
  pub told : Option (List Told)
  pub faults : ℕ

abbrev pub standing : Service Host → QueueSource → QueueSink → Option (List Told) → ℕ → Standing
standing service source sink told faults = record { service = service; queue = queue_of source; drain = drain_of source; poster = poster_of sink; told = told; faults = faults }

-- turns on what the drain took and what the wire told, each by the milliseconds of a wait; each seat's orders are its next ones, in order;
-- what the turns put is what the poster posted
pub record Advances (old : Standing) (rounds : List Round) (new : Standing) : Type 0 where
  pub turns : TakesTurns old.service rounds new.service
  pub gave : taken new.drain ≡ taken old.drain ++ given (all_gave rounds)
  pub queue : new.queue ≡ old.queue
  pub drains : DrainsOn old.queue old.drain (given (all_gave rounds)) new.drain
  pub put : PostsOn old.poster (accepted (all_puts rounds)) new.poster
  pub told : new.told ≡ also old.told (unless_spent old.faults (all_told rounds))

-- such turns, in none of which the wire failed
pub record Spell (old : Standing) (rounds : List Round) (new : Standing) (report : Report) : Type 0 where
  pub advances : Advances old rounds new
  pub sound : All IsSound rounds
  pub totals : report ≡ total rounds
  pub faults : new.faults ≡ old.faults

-- the turns of a run
pub record HasTurned (run_length : RunLength) (old new : Standing) (report : Report) : Type 0 where
  pub rounds : List Round
  pub lasts : Lasts run_length rounds
  pub spell : Spell old rounds new report

-- the turns of a run that the wire cut off, no more than it was to have: it failed once, in the last of them or in the wait after it
pub record IsCut (run_length : RunLength) (old new : Standing) : Type 0 where
  pub rounds : List Round
  pub within : LastsAtMost run_length rounds
  pub advances : Advances old rounds new
  pub cut : AreCut rounds
  pub faults : new.faults ≡ old.faults + 1

-- these peers were told that their connection ends in this way, one after another, unless that was refused
abbrev pub PartsFrom : DisconnectMode → Host → List PeerRef → Host → Type 0
PartsFrom how old peers new = Chain (λ h peer g. (why : Option Refusal) × AppliesOrder h (Disconnect peer how 0) why g) old peers new

-- what the threads handed back belongs to the queues, which have one seat and one taker
pub record CanSettle (queue : SubmitQueue) (events : Queue) (back : Returned) : Type 0 where
  pub seat : IsFinishedOf queue back.seat
  pub drain : IsDrainOf queue back.drain
  pub one_seat : seats_of queue ≡ 1
  pub poster : back.poster.queue ≡ events.id
  pub taker : back.taker.queue ≡ events.id
  pub one_taker : events.id.takers ≡ 1

-- queues that were settled: what the drain took, and then what was left, is a history of the one seat, which submitted just that; the one taker
-- took all that was posted
pub record AreSettled (back : Returned) (left : List Order) : Type 0 where
  pub held : List Submission
  pub left_is : orders held ≡ left
  pub history : IsHistory 1 (taken back.drain ++ held)
  pub sent : of 0 (taken back.drain ++ held) ≡ all_sent back.seat
  pub one_taker : back.taker.queue.takers ≡ 1
  pub first : back.taker.index ≡ 0
  pub fits : TakerFits back.taker back.poster.posted []
