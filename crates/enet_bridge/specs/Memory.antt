-- A source and a sink in memory.
use Rattle.std.specs.Prelude.{◌≡◌, ℕ, ◌<◌, ◌≤◌, List, [], ◌∷◌, ◌++◌, length, Bool, true, false, Option, Some, None}
use Rattle.enet_codec.specs.declared.event.Event.{Event}
use Rattle.enet_submit.specs.declared.order.Submission.{Submission}

-- the first is given, or there is none
abbrev pub FirstIs : List Submission → Option Submission → List Submission → Type 0
FirstIs (x ∷ rest) (Some y) after = (y ≡ x) × (after ≡ rest)
FirstIs [] None after = after ≡ []
FirstIs _ _ after = ⊥

-- how many events a sink holds at most, and those that it holds
pub record Shelf : Type 0 where
  pub capacity : ℕ
  pub events : List Event

-- an event was put last, where there was a place for it; else it was handed back
abbrev pub ShelfPuts : Shelf → Event → Bool → Shelf → Type 0
ShelfPuts old event true new = (length old.events < old.capacity) × (new ≡ record old { events = old.events ++ event ∷ [] })
ShelfPuts old event false new = (old.capacity ≤ length old.events) × (new ≡ old)
