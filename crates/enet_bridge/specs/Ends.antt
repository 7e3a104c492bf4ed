-- The ends of the two queues, as the service and the game threads hold them.
use Rattle.std.specs.Prelude.{◌≡◌, List, [], ◌∷◌, ◌++◌, map, Bool, true, false, Option, Some, None}
use Rattle.crossbeam_queue.specs.Fifo.{Held}
use Rattle.enet_codec.specs.declared.event.Event.{Event}
use Rattle.enet_codec.specs.declared.refusal.Refusal.{Refusal}
use Rattle.enet_submit.specs.declared.order.Order.{Order}
use Rattle.enet_submit.specs.declared.order.Submission.{Submission}
use Rattle.enet_submit.specs.declared.queue.SubmitQueue.{SubmitQueue}
use Rattle.enet_submit.specs.declared.token.Drain.{Drain}
use Rattle.enet_submit.specs.Words.{taken, IsNextOfSeat, DrainSees, BeganHistory}
use Rattle.enet_events.specs.Words.{Queue, PosterState, IsNotPosted, next}

-- orders without the numbers that their seat gave them
abbrev pub orders : List Submission → List Order
orders submissions = map (λ x. x.order) submissions

-- a drain gave the next order of a seat, and what it took so begins a history; or there is a state of its queue, empty, that fits what it took
abbrev pub DrainGives : SubmitQueue → Drain → Option Submission → Drain → Type 0
DrainGives queue old (Some x) new = (taken new ≡ taken old ++ x ∷ []) × IsNextOfSeat queue old x × BeganHistory queue new
DrainGives queue old None new = (taken new ≡ taken old) × Held 0 (DrainSees queue old)

-- a poster posted an event, or handed it back: there is a state of its queue, full, that fits what was posted, or the numbers are used up
abbrev pub PosterPuts : Queue → PosterState → Event → Bool → PosterState → Type 0
PosterPuts queue old event true new = new ≡ record old { posted = old.posted ++ next old event ∷ [] }
PosterPuts queue old event false new = (new ≡ old) × (why : Refusal) × IsNotPosted queue old why
