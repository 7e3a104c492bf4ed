-- What was posted, what was taken and what is held.
use Rattle.std.specs.Prelude.{◌≡◌, ℕ, ◌+◌, ◌<◌, ◌==◌, List, [], ◌∷◌, ◌++◌}
use Rattle.std.specs.List.{All, filter}
use Rattle.enet_events.specs.declared.numbered.Numbered.{Numbered}

-- numbered from k on, without gaps
abbrev pub IsNumbered : ℕ → List Numbered → Type 0
IsNumbered k [] = Unit {0}
IsNumbered k (x ∷ xs) = (x.number ≡ k) × IsNumbered (k + 1) xs

-- the events of one taker in order, where `who` says which taker has the event of each number
abbrev pub part : (ℕ → ℕ) → ℕ → List Numbered → List Numbered
part who index events = filter (λ x. who x.number == index) events

-- each of the events is with one of so many takers
abbrev pub AreWith : (ℕ → ℕ) → ℕ → List Numbered → Type 0
AreWith who takers events = All (λ x. who x.number < takers) events

-- A moment of the queue: what was posted until then is what was taken and then what is held, numbered from 0 without
-- gaps, and each event that was taken is with one of the takers
pub record Moment (takers : ℕ) (posted held : List Numbered) : Type 0 where
  pub taken : List Numbered
  pub who : ℕ → ℕ
  pub in_order : posted ≡ taken ++ held
  pub numbered : IsNumbered 0 posted
  pub shared : AreWith who takers taken
