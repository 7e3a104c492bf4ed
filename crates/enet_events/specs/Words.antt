-- What the clauses of the queue say.
use Rattle.std.specs.Prelude.{◌≡◌, ℕ, zero, suc, ◌+◌, ◌<◌, ◌≤◌, ◌==◌, List, [], ◌∷◌, ◌++◌, length, slice_index, Option, IsSome, find, option_map, unwrap_or}
use Rattle.std.specs.List.{All}
use Rattle.atomic_table.specs.Seated.{TableId}
use Rattle.crossbeam_queue.specs.Fifo.{Held}
use Rattle.enet_codec.specs.declared.refusal.Refusal.{Refusal}
use Rattle.enet_codec.specs.declared.refusal.Refusal.TheVariants.{Memory, BadConfig, Full, SeatSpent}
use Rattle.enet_codec.specs.declared.event.Event.{Event}
use Rattle.enet_events.specs.declared.numbered.Numbered.{Numbered}
use Rattle.enet_events.specs.History.{IsNumbered, part, AreWith, Moment}

-- which queue it is, and how many takers it has
pub record QueueId : Type 0 where
  pub table : TableId
  pub takers : ℕ

-- a queue, as clauses see it
pub record Queue : Type 0 where
  pub id : QueueId
  pub capacity : ℕ

-- a poster, as clauses see it: its queue, and all that was posted, in order
pub record PosterState : Type 0 where
  pub queue : QueueId
  pub posted : List Numbered

-- a taker, as clauses see it: its queue, which of the takers it is, and all that it took, in order
pub record TakerState : Type 0 where
  pub queue : QueueId
  pub index : ℕ
  pub taken : List Numbered

-- the sizes that a queue may have
abbrev pub IsInRange : ℕ → ℕ → Type 0
IsInRange capacity takers = (1 ≤ capacity) × (capacity ≤ 65536) × (1 ≤ takers) × (takers ≤ 16)

-- why no queue was made: a size is out of range, or memory ran out
abbrev pub IsNotOpened : ℕ → ℕ → Refusal → Type 0
IsNotOpened capacity takers BadConfig = ¬ (IsInRange capacity takers)
IsNotOpened capacity takers Memory = IsInRange capacity takers
IsNotOpened capacity takers e = ⊥

-- so many takers that took nothing yet, in the order of their indices
abbrev pub new_takers : QueueId → ℕ → List TakerState
new_takers queue zero = []
new_takers queue (suc n) = new_takers queue n ++ record { queue = queue; index = n; taken = [] } ∷ []

-- the event under the next number
abbrev pub next : PosterState → Event → Numbered
next p event = record { number = length p.posted; event = event }

-- at a moment of the call, all that was posted was taken, or is held: these
abbrev pub PosterFits : PosterState → List Numbered → Type 0
PosterFits p held = Moment p.queue.takers p.posted held

-- at a moment of the call, these were posted and these are held, and the taker's list is just its part of the rest
abbrev pub TakerFits : TakerState → List Numbered → List Numbered → Type 0
TakerFits t posted held = (m : Moment t.queue.takers posted held) × (part m.who t.index m.taken ≡ t.taken)

-- why an event was not posted: the numbers are used up; or they are not, and a step of the call found the queue full
abbrev pub IsNotPosted : Queue → PosterState → Refusal → Type 0
IsNotPosted q p SeatSpent = 4294967295 ≤ length p.posted
IsNotPosted q p Full = (length p.posted < 4294967295) × Held q.capacity (PosterFits p)
IsNotPosted q p e = ⊥

-- how many events the taker of this index took, where it is there
abbrev pub taken_by : ℕ → List TakerState → Option ℕ
taken_by index ts = option_map (λ t. length t.taken) (find (λ t. t.index == index) ts)

-- each of so many takers is there
abbrev pub AllBack : ℕ → List TakerState → Type 0
AllBack takers ts = (index : ℕ) → index < takers → IsSome (taken_by index ts)

-- how many events the takers below n took together
abbrev pub taken_below : ℕ → List TakerState → ℕ
taken_below zero ts = 0
taken_below (suc n) ts = taken_below n ts + unwrap_or (taken_by n ts) 0

-- each taker is there, and together they took as many as were posted
abbrev pub IsAllTaken : PosterState → List TakerState → Type 0
IsAllTaken p ts = AllBack p.queue.takers ts × (taken_below p.queue.takers ts ≡ length p.posted)

-- how many events each of so many takers took, and 0 past the last of them
abbrev pub AreCounts : ℕ → List ℕ → List TakerState → Type 0
AreCounts takers by ts =
    (length by ≡ 16) × ((index : ℕ) → index < takers → slice_index by index ≡ unwrap_or (taken_by index ts) 0)
    × ((index : ℕ) → takers ≤ index → index < 16 → slice_index by index ≡ 0)

-- The posted events are numbered from 0 without gaps, each is with one of the takers, and each taker's list is just its
-- events of them, in order
pub record IsSharedOut (p : PosterState) (ts : List TakerState) : Type 0 where
  pub who : ℕ → ℕ
  pub numbered : IsNumbered 0 p.posted
  pub shared : AreWith who p.queue.takers p.posted
  pub lists : All (λ t. part who t.index p.posted ≡ t.taken) ts
