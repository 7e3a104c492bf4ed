-- What the clauses of the queue say.
use Rattle.std.specs.Prelude.{◌≡◌, ℕ, ◌+◌, ◌<◌, ◌≤◌, slice_index, List, [], ◌∷◌, ◌++◌, length}
use Rattle.std.specs.List.{All, Contains}
use Rattle.crossbeam_queue.specs.Passes.{view, ruled_capacity}
use Rattle.enet_submit.specs.declared.order.Order.{Order}
use Rattle.enet_submit.specs.declared.order.Submission.{Submission}
use Rattle.enet_submit.specs.declared.order.Ticket.{Ticket}
use Rattle.enet_submit.specs.declared.order.Account.{Account}
use Rattle.enet_submit.specs.declared.queue.SubmitQueue.{SubmitQueue}
use Rattle.enet_submit.specs.declared.token.Seat.{Seat}
use Rattle.enet_submit.specs.declared.token.Drain.{Drain}
use Rattle.enet_submit.specs.declared.token.Finished.{Finished}
use Rattle.enet_submit.specs.declared.order.Parcel.{Parcel}
use Rattle.enet_submit.specs.History.{of, IsHistory}
use Rattle.enet_submit.specs.Parcels.{numbered, contents, left_of, all_but}
use Rattle.enet_submit.specs.Rule.{seats_in, sent_in, taken_in}

-- ---- what a queue and its tokens show
abbrev pub capacity_of : SubmitQueue → ℕ
capacity_of q = ruled_capacity q.ring

abbrev pub seats_of : SubmitQueue → ℕ
seats_of q = q.seats

-- how many orders a seat may submit
abbrev pub limit_of : SubmitQueue → ℕ
limit_of q = q.per_seat

abbrev pub number_of : Seat → ℕ
number_of s = s.number

-- what the seat was told Ok, in order
abbrev pub sent : Seat → List Submission
sent s = sent_in (view s.pass)

-- what the drain took, in order
abbrev pub taken : Drain → List Submission
taken d = all_but (taken_in (view d.pass)) (left_of d.seat d.number d.rest)

-- which seat was given up
abbrev pub seat_of : Finished → ℕ
seat_of f = f.number

-- what it had been told Ok, in order
abbrev pub all_sent : Finished → List Submission
all_sent f = sent_in (view f.pass)

-- ---- whose they are
abbrev pub IsSeatOf : SubmitQueue → Seat → Type 0
IsSeatOf q s = (s.pass.table_id ≡ q.ring.table.shared.table_id) × (seats_in (view s.pass) ≡ seats_of q) × (length (sent s) ≤ limit_of q)

abbrev pub IsDrainOf : SubmitQueue → Drain → Type 0
IsDrainOf q d = (d.pass.table_id ≡ q.ring.table.shared.table_id) × (seats_in (view d.pass) ≡ seats_of q)

abbrev pub IsFinishedOf : SubmitQueue → Finished → Type 0
IsFinishedOf q f = (f.pass.table_id ≡ q.ring.table.shared.table_id) × (seats_in (view f.pass) ≡ seats_of q)

-- ---- open
-- 1 to 65,536 places, 1 to 16 seats, at least 1 order a seat
abbrev pub IsInRange : ℕ → ℕ → ℕ → Type 0
IsInRange capacity seats per_seat = (1 ≤ capacity) × (capacity ≤ 65536) × (1 ≤ seats) × (seats ≤ 16) × (1 ≤ per_seat)

-- the seat in place k has the number k, and has submitted nothing
abbrev pub IsNew : ℕ → Seat → Type 0
IsNew k s = (number_of s ≡ k) × (sent s ≡ [])

-- P of each seat with its place, the first place being k
abbrev pub EachFrom : ℕ → (ℕ → Seat → Type 0) → List Seat → Type 0
EachFrom k P [] = Unit {0}
EachFrom k P (s ∷ ss) = P k s × EachFrom (k + 1) P ss

-- how many places a queue has, how many seats, and how many orders each seat may submit
pub record Sizes : Type 0 where
  pub capacity : ℕ
  pub seats : ℕ
  pub per_seat : ℕ

-- a queue with these numbers, one new seat for each number, in order, and a drain that took nothing
pub record IsOpened (sizes : Sizes) (queue : SubmitQueue) (all : List Seat) (drain : Drain) : Type 0 where
  pub capacity_is : capacity_of queue ≡ sizes.capacity
  pub seats_are : seats_of queue ≡ sizes.seats
  pub limit_is : limit_of queue ≡ sizes.per_seat
  pub one_for_each : length all ≡ sizes.seats
  pub in_order : EachFrom 0 IsNew all
  pub all_of_queue : All (IsSeatOf queue) all
  pub drain_of_queue : IsDrainOf queue drain
  pub none_taken : taken drain ≡ []

-- ---- submit
abbrev pub submission : ℕ → ℕ → Order → Submission
submission seat number order = record { seat = seat; number = number; order = order }

-- the seat's list grows by the order, under the next number, and the ticket says so
abbrev pub IsNext : Seat → Order → Seat → Ticket → Type 0
IsNext old order new ticket =
    let number = length (sent old) in
    (ticket ≡ record { seat = number_of old; number = number }) × (sent new ≡ sent old ++ submission (number_of old) number order ∷ [])

-- the seat's list grows by these orders, under the next numbers, and the ticket says the first of these
abbrev pub AreNext : Seat → List Order → Seat → Ticket → Type 0
AreNext old orders new ticket =
    let number = length (sent old) in
    (ticket ≡ record { seat = number_of old; number = number }) × (sent new ≡ sent old ++ numbered (number_of old) number orders)

-- while the queue holds these items: behind what was taken they make a history, and the seat's part of it is what the seat was told Ok
abbrev pub SeatSees : SubmitQueue → Seat → List Submission → Type 0
SeatSees q s held = (taken : List Submission) × IsHistory (seats_of q) (taken ++ held) × (of (number_of s) (taken ++ held) ≡ sent s)

-- at one moment of the call the queue held some items, and behind them this one
abbrev pub StoodLast : SubmitQueue → Seat → Submission → Type 0
StoodLast q s item = (before : List Submission) × SeatSees q s (before ++ item ∷ [])

-- the same of several
abbrev pub AllStoodLast : SubmitQueue → Seat → List Submission → Type 0
AllStoodLast q s items = (before : List Submission) × SeatSees q s (before ++ items)

-- the same while the places of the queue hold these, each at least one item
abbrev pub SeatSeesIn : SubmitQueue → Seat → List Parcel → Type 0
SeatSeesIn q s held = SeatSees q s (contents held)

-- ---- take
-- while the queue holds these items: what the drain took, and then they, are a history
abbrev pub DrainSees : SubmitQueue → Drain → List Submission → Type 0
DrainSees q d held = IsHistory (seats_of q) (taken d ++ held)

-- at one moment of the call, what the drain took began a history
abbrev pub BeganHistory : SubmitQueue → Drain → Type 0
BeganHistory q d = (held : List Submission) × DrainSees q d held

-- the item is the next one of its seat
abbrev pub IsNextOfSeat : SubmitQueue → Drain → Submission → Type 0
IsNextOfSeat q d item = (item.seat < seats_of q) × (item.number ≡ length (of item.seat (taken d)))

-- ---- finish and settle
-- the seat is given up, with its list
abbrev pub Ends : Seat → Finished → Type 0
Ends s f = (f.pass.table_id ≡ s.pass.table_id) × (seats_in (view f.pass) ≡ seats_in (view s.pass)) × (seat_of f ≡ number_of s) × (all_sent f ≡ sent s)

-- the seat is among them, and submitted so many
abbrev pub HasSent : ℕ → ℕ → List Finished → Type 0
HasSent seat count fs = (f : Finished) × Contains fs f × (seat_of f ≡ seat) × (length (all_sent f) ≡ count)

-- each seat is back, and as many of its orders were taken as it submitted
abbrev pub AllBack : SubmitQueue → Drain → List Finished → Type 0
AllBack q d fs = (seat : ℕ) → seat < seats_of q → HasSent seat (length (of seat (taken d))) fs

-- how many orders were taken, in all and by seat
abbrev pub Counts : Drain → Account → Type 0
Counts d a = (a.total ≡ length (taken d)) × ((seat : ℕ) → seat < 16 → slice_index a.by_seat seat ≡ length (of seat (taken d)))
