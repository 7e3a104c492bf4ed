-- What holds at every moment, whatever the schedule, and what a step tells the token that takes it.
use Rattle.std.specs.Prelude.{◌≡◌, ℕ, ◌+◌, ◌≤◌, ◌⊎◌, List, [], ◌∷◌, ◌++◌}
use mathlib.Core.Option.{some}
use lib.ListN.{get_elem?}
use Rattle.enet_submit.specs.declared.order.Submission.{Submission}
use Rattle.enet_submit.specs.declared.rule.SeatLog.{SeatLog}
use Rattle.enet_submit.specs.declared.rule.View.{View}
use Rattle.enet_submit.specs.declared.rule.View.TheVariants.{Draining, Sending, Spent}
use Rattle.enet_submit.specs.declared.order.Parcel.{Parcel}
use Rattle.enet_submit.specs.Parcels.{spelled, contents}
use Rattle.enet_submit.specs.History.{of, IsHistory, StartsWith}

abbrev pub log : ℕ → List Submission → SeatLog
log seat sent = record { seat = seat; sent = sent }

abbrev pub draining : ℕ → ℕ → List Submission → List SeatLog → View
draining seats made taken finished = Draining seats made taken finished

abbrev pub sending : ℕ → ℕ → List Submission → View
sending seat seats sent = Sending seat seats sent

abbrev pub spent : View
spent = Spent

-- ---- what a view has
abbrev pub sent_in : View → List Submission
sent_in (Draining seats made taken finished) = []
sent_in (Sending seat seats sent) = sent
sent_in Spent = []

abbrev pub taken_in : View → List Submission
taken_in (Draining seats made taken finished) = taken
taken_in (Sending seat seats sent) = []
taken_in Spent = []

abbrev pub seats_in : View → ℕ
seats_in (Draining seats made taken finished) = seats
seats_in (Sending seat seats sent) = seats
seats_in Spent = 0

-- ---- the rule
abbrev pub Among : SeatLog → List SeatLog → Type 0
Among x xs = (k : ℕ) × (get_elem? xs k ≡ some x)

-- the token knows all that the seat was told Ok: a seat its own list, the drain those of the seats to come, which have none, and of the seats that it took in
abbrev pub Knows : View → ℕ → List Submission → Type 0
Knows (Draining seats made taken finished) s items = ((made ≤ s) × (items ≡ [])) ⊎ Among (log s items) finished
Knows (Sending seat seats sent) s items = (s ≡ seat) × (items ≡ sent)
Knows Spent s items = ⊥

-- each token knows how many seats there are, and the one that drains knows what was taken
abbrev pub Agrees : ℕ → ℕ → List Submission → ℕ → View → Type 0
Agrees drain seats taken pass (Draining n made got finished) = (pass ≡ drain) × (n ≡ seats) × (got ≡ taken)
Agrees drain seats taken pass (Sending seat n sent) = n ≡ seats
Agrees drain seats taken pass Spent = Unit {0}

-- What was taken and what is held make a history. There is one drain. Each seat belongs to one token, which knows all that the seat was told Ok, and just that is in the history
pub record Invariant (held : List Submission) (views : List View) : Type 0 where
  pub drain : ℕ
  pub seats : ℕ
  pub taken : List Submission
  pub owner : ℕ → ℕ
  pub history : IsHistory seats (taken ++ held)
  pub agrees : (pass : ℕ) (v : View) → get_elem? views pass ≡ some v → Agrees drain seats taken pass v
  pub known : (pass : ℕ) (v : View) → get_elem? views pass ≡ some v → (s : ℕ) (items : List Submission) → Knows v s items → (owner s ≡ pass) × (of s (taken ++ held) ≡ items)

-- the same of what the places of the queue hold
abbrev pub Holds : List Parcel → List View → Type 0
Holds held views = Invariant (contents held) views

-- ---- what a step does to the view
abbrev pub widened : View → View
widened (Draining seats made taken finished) = Draining (seats + 1) made taken finished
widened (Sending seat seats sent) = Sending seat seats sent
widened Spent = Spent

abbrev pub made_one : View → View
made_one (Draining seats made taken finished) = Draining seats (made + 1) taken finished
made_one (Sending seat seats sent) = Sending seat seats sent
made_one Spent = Spent

abbrev pub new_seat : View → View
new_seat (Draining seats made taken finished) = Sending made seats []
new_seat (Sending seat seats sent) = Spent
new_seat Spent = Spent

abbrev pub informed : View → View → View
informed (Draining seats made taken finished) (Sending seat n sent) = Draining seats made taken (finished ++ log seat sent ∷ [])
informed (Draining seats made taken finished) (Draining n m got more) = Draining seats made taken finished
informed (Draining seats made taken finished) Spent = Draining seats made taken finished
informed (Sending seat seats sent) w = Sending seat seats sent
informed Spent w = Spent

abbrev pub with_sent : View → List Submission → View
with_sent (Draining seats made taken finished) xs = Draining seats made taken finished
with_sent (Sending seat seats sent) xs = Sending seat seats (sent ++ xs)
with_sent Spent xs = Spent

abbrev pub with_taken : View → List Submission → View
with_taken (Draining seats made taken finished) xs = Draining seats made (taken ++ xs) finished
with_taken (Sending seat seats sent) xs = Sending seat seats sent
with_taken Spent xs = Spent

-- ---- what a step tells
abbrev pub TakenIs : View → List Submission → Type 0
TakenIs (Draining seats made got finished) taken = got ≡ taken
TakenIs (Sending seat seats sent) taken = Unit {0}
TakenIs Spent taken = Unit {0}

-- while the queue holds these items: behind what was taken they make a history, in which the seats that the token knows have just their lists
abbrev pub Shows : View → List Submission → Type 0
Shows v held =
    (taken : List Submission) × IsHistory (seats_in v) (taken ++ held)
    × ((s : ℕ) (items : List Submission) → Knows v s items → of s (taken ++ held) ≡ items)
    × TakenIs v taken

abbrev pub ShowsIn : View → List Parcel → Type 0
ShowsIn v held = Shows v (contents held)

-- what a place holds joined the token's list, and stood last in the queue
abbrev pub Submitted : View → Parcel → View → Type 0
Submitted v x w = (w ≡ with_sent v (spelled x)) × ((before : List Submission) × Shows w (before ++ spelled x))

-- what a place held joined what the token took, and left the rest in the queue
abbrev pub Took : View → Parcel → View → Type 0
Took v x w = (w ≡ with_taken v (spelled x)) × ((rest : List Submission) × Shows w rest)

-- ---- the law on every moment
-- what a seat was told Ok is its part of the history, and begins with what was taken of it
abbrev pub TakenComesFirst : Type 0
TakenComesFirst =
    (held : List Submission) (views : List View) → Invariant held views
    → (i seats made : ℕ) (taken : List Submission) (finished : List SeatLog) → get_elem? views i ≡ some (draining seats made taken finished)
    → (j seat n : ℕ) (sent : List Submission) → get_elem? views j ≡ some (sending seat n sent)
    → (sent ≡ of seat (taken ++ held)) × StartsWith sent (of seat taken)
