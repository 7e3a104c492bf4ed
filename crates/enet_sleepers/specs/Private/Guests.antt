-- Peers of an IP address are looked for.
use Rattle.std.specs.Prelude.{◌≡◌, ℕ, ◌+◌, ◌<◌, ◌≤◌, Bool, true, false, Option, List, MatchOption}
use Rattle.enet_deadlines.specs.Sets.{IsOut}

-- of a row's places those from one on are not in it, up to another one
pub record Passes (rows : List Bool) (first slots from next : ℕ) : Type 0 where
  pub past : from ≤ next
  pub within : next ≤ slots
  pub out : (i : ℕ) → from ≤ i → i < next → IsOut rows (first + i)

-- of the slots before one that wait this is the first of those that have done so longest, and for how long
abbrev pub IsOldestBefore : (ℕ → Bool) → (ℕ → ℕ) → ℕ → Option (ℕ × ℕ) → Type 0
IsOldestBefore waits ages end oldest = MatchOption oldest
    ((i : ℕ) → i < end → waits i ≡ false)
    (λ found. (found.0 < end) × (waits found.0 ≡ true) × (ages found.0 ≡ found.1)
    × ((i : ℕ) → i < end → waits i ≡ true → ages i ≤ found.1) × ((i : ℕ) → i < found.0 → waits i ≡ true → ages i < found.1))
