-- Histories of a queue: all that was taken from it, followed by what it holds.
use Rattle.std.specs.Prelude.{◌≡◌, ℕ, ◌+◌, ◌≤◌, ◌==◌, List, [], ◌∷◌, ◌++◌, length}
use Rattle.std.specs.List.{filter}
use Rattle.enet_submit.specs.declared.order.Submission.{Submission}

-- the items of a seat, in their order
abbrev pub of : ℕ → List Submission → List Submission
of seat items = filter (λ item. item.seat == seat) items

-- numbered from k on, without gaps
abbrev pub CountsFrom : ℕ → List Submission → Type 0
CountsFrom k [] = Unit {0}
CountsFrom k (item ∷ items) = (item.number ≡ k) × CountsFrom (k + 1) items

-- only the seats below this number have items, and each seat's are numbered from 0 without gaps
pub record IsHistory (seats : ℕ) (items : List Submission) : Type 0 where
  pub of_these_seats : (seat : ℕ) → seats ≤ seat → of seat items ≡ []
  pub numbered : (seat : ℕ) → CountsFrom 0 (of seat items)
  pub countable : (seat : ℕ) → length (of seat items) ≤ 4294967295

-- the one list begins with the other
abbrev pub StartsWith : List Submission → List Submission → Type 0
StartsWith items front = (rest : List Submission) × (items ≡ front ++ rest)
