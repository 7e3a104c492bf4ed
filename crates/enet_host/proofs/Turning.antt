-- Slots in turn, by their numbers.
use Rattle.std.proofs.Common.{◌≡◌, ℕ, ◌+◌, ◌-◌, ◌<◌, ◌≤◌, ◌⊎◌, inl, inr, Bool, true, false, nat_lt, if◌then◌else◌, refl, ap, arith}
use Rattle.std.proofs.lemmas.Bool.Decides.{nat_tests}
use Rattle.enet_host.specs.Turns.{turn_of}

split-by : (n from i : ℕ) (b : Bool) → nat_lt i from ≡ b
    → ((i < from) × (turn_of n from i ≡ n - from + i)) ⊎ ((from ≤ i) × (turn_of n from i ≡ i - from))
split-by n from i true e = let low : i < from = grind (arith, nat_tests, e) in inl (low, ap (λ (b : Bool). if b then n - from + i else i - from) e)
split-by n from i false e = let high : from ≤ i = grind (arith, nat_tests, e) in inr (high, ap (λ (b : Bool). if b then n - from + i else i - from) e)

pub turn-split : (n from i : ℕ) → ((i < from) × (turn_of n from i ≡ n - from + i)) ⊎ ((from ≤ i) × (turn_of n from i ≡ i - from))
turn-split n from i = split-by n from i (nat_lt i from) refl

zero-by : (n i : ℕ) → ((i < 0) × (turn_of n 0 i ≡ n - 0 + i)) ⊎ ((0 ≤ i) × (turn_of n 0 i ≡ i - 0)) → turn_of n 0 i ≡ i
zero-by n i (inl h) = absurd (omega (arith, h.0))
zero-by n i (inr h) = omega (arith, h.1)

-- where slot 0 is first, each slot has the turn of its number
pub turn-from-zero : (n i : ℕ) → turn_of n 0 i ≡ i
turn-from-zero n i = zero-by n i (turn-split n 0 i)

below-by : (n from i : ℕ) → ((i < from) × (turn_of n from i ≡ n - from + i)) ⊎ ((from ≤ i) × (turn_of n from i ≡ i - from)) → from < n → i < n → turn_of n from i < n
below-by n from i (inl h) f inside = omega (arith, h.0, h.1)
below-by n from i (inr h) f inside = omega (arith, h.0, h.1)

-- each turn comes before the round is over
pub turn-below : (n from i : ℕ) → from < n → i < n → turn_of n from i < n
turn-below n from i f inside = below-by n from i (turn-split n from i) f inside

same-by : (n from i j : ℕ) → ((i < from) × (turn_of n from i ≡ n - from + i)) ⊎ ((from ≤ i) × (turn_of n from i ≡ i - from))
    → ((j < from) × (turn_of n from j ≡ n - from + j)) ⊎ ((from ≤ j) × (turn_of n from j ≡ j - from)) → from < n → i < n → j < n
    → turn_of n from i ≡ turn_of n from j → i ≡ j
same-by n from i j (inl h) (inl k) f a b e = omega (arith, h.0, h.1, k.0, k.1)
same-by n from i j (inl h) (inr k) f a b e = omega (arith, h.0, h.1, k.0, k.1)
same-by n from i j (inr h) (inl k) f a b e = omega (arith, h.0, h.1, k.0, k.1)
same-by n from i j (inr h) (inr k) f a b e = omega (arith, h.0, h.1, k.0, k.1)

-- each slot has a turn of its own
pub same-turn : (n from i j : ℕ) → from < n → i < n → j < n → turn_of n from i ≡ turn_of n from j → i ≡ j
same-turn n from i j f a b e = same-by n from i j (turn-split n from i) (turn-split n from j) f a b e

early-by : (n from i turn : ℕ) → ((i < from) × (turn_of n from i ≡ n - from + i)) ⊎ ((from ≤ i) × (turn_of n from i ≡ i - from)) → i ≡ from + turn
    → turn_of n from i ≡ turn
early-by n from i turn (inl h) e = omega (arith, h.0, h.1, e)
early-by n from i turn (inr h) e = omega (arith, h.0, h.1, e)

-- a turn before the end of the slots is reached
pub early-turn : (n from i turn : ℕ) → i ≡ from + turn → turn_of n from i ≡ turn
early-turn n from i turn e = early-by n from i turn (turn-split n from i) e

late-by : (n from i turn : ℕ) → ((i < from) × (turn_of n from i ≡ n - from + i)) ⊎ ((from ≤ i) × (turn_of n from i ≡ i - from)) → from < n → turn < n
    → n - from ≤ turn → i ≡ turn - (n - from) → turn_of n from i ≡ turn
late-by n from i turn (inl h) f inside past e = omega (arith, h.0, h.1, f, inside, past, e)
late-by n from i turn (inr h) f inside past e = absurd (omega (arith, h.0, f, inside, past, e))

-- and one after it
pub late-turn : (n from i turn : ℕ) → from < n → turn < n → n - from ≤ turn → i ≡ turn - (n - from) → turn_of n from i ≡ turn
late-turn n from i turn f inside past e = late-by n from i turn (turn-split n from i) f inside past e

-- two slots have the same place in turn only if they are the same
pub turns-apart : (n from i j : ℕ) → i < n → j < n → turn_of n from i ≡ turn_of n from j → i ≡ j
turns-apart n from i j a b e = grind (arith, nat_tests)
