-- What a report counts.
use Rattle.std.specs.Prelude.{ℕ, ◌+◌, min, Bool, true, false, List, [], ◌∷◌, Option, Some, None}
use Rattle.enet_codec.specs.declared.event.Event.{Event}
use Rattle.enet_submit.specs.declared.order.Submission.{Submission}
use Rattle.enet_wire.specs.declared.told.Told.{Told}
use Rattle.enet_wire.specs.declared.told.Told.TheVariants.{Came, Went, Lost, Blocked}

-- 1 where it is so, else 0
abbrev pub count_of : Bool → ℕ
count_of true = 1
count_of false = 0

-- the events that were taken
abbrev pub taken_in : List (Event × Bool) → ℕ
taken_in [] = 0
taken_in (x ∷ xs) = count_of x.1 + taken_in xs

-- the orders that were given
abbrev pub given_in : List (Option Submission) → ℕ
given_in [] = 0
given_in (None ∷ xs) = given_in xs
given_in (Some x ∷ xs) = 1 + given_in xs

-- the datagrams that came
abbrev pub came_in : List Told → ℕ
came_in [] = 0
came_in (Came from bytes ∷ xs) = 1 + came_in xs
came_in (_ ∷ xs) = came_in xs

-- the datagrams that went
abbrev pub went_in : List Told → ℕ
went_in [] = 0
went_in (Went to bytes ∷ xs) = 1 + went_in xs
went_in (_ ∷ xs) = went_in xs

-- the datagrams that were lost, or not taken since their send would have blocked
abbrev pub lost_in : List Told → ℕ
lost_in [] = 0
lost_in (Lost to bytes ∷ xs) = 1 + lost_in xs
lost_in (Blocked to bytes ∷ xs) = 1 + lost_in xs
lost_in (_ ∷ xs) = lost_in xs

-- a count stops at the greatest number of 32 bits
abbrev pub stopped : ℕ → ℕ
stopped n = min n 4294967295
