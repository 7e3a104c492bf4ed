-- A run between the two queues: what it took from the one, and what it put into the other.
use Rattle.std.specs.Prelude.{◌≡◌, ℕ, Bool, List, ◌++◌, length, map, Option}
use Rattle.std.specs.List.{filter, filter_map}
use Rattle.enet_codec.specs.declared.event.Event.{Event}
use Rattle.enet_submit.specs.declared.order.Submission.{Submission}
use Rattle.enet_submit.specs.declared.queue.SubmitQueue.{SubmitQueue}
use Rattle.enet_submit.specs.declared.token.Drain.{Drain}
use Rattle.enet_submit.specs.History.{of, CountsFrom}
use Rattle.enet_submit.specs.Words.{taken, BeganHistory}
use Rattle.enet_events.specs.Words.{PosterState}

-- the submissions that were given
abbrev pub given : List (Option Submission) → List Submission
given gave = filter_map (λ x. x) gave

-- the events that were taken
abbrev pub accepted : List (Event × Bool) → List Event
accepted puts = map (λ x. x.0) (filter (λ x. x.1) puts)

-- a drain went on by these submissions: each seat's are its next ones, each once and in the seat's order, and what the drain
-- took still begins a history of the queue
pub record DrainsOn (queue : SubmitQueue) (old : Drain) (items : List Submission) (new : Drain) : Type 0 where
  pub grown : taken new ≡ taken old ++ items
  pub in_order : (seat : ℕ) → CountsFrom (length (of seat (taken old))) (of seat items)
  pub begins : BeganHistory queue old → BeganHistory queue new

-- a poster went on by these events, in order
pub record PostsOn (old : PosterState) (events : List Event) (new : PosterState) : Type 0 where
  pub same : new.queue ≡ old.queue
  pub grown : map (λ x. x.event) new.posted ≡ map (λ x. x.event) old.posted ++ events
