-- The estimate of a peer's round trip, in milliseconds.
use Rattle.std.specs.Prelude.{ℕ, ◌+◌, ◌-◌, ◌*◌, ◌/◌, ◌≤◌, min, Bool, true, false, nat_le, if◌then◌else◌}
use Rattle.std.specs.Int.{abs_diff}

-- A round trip, its variance, and whether a sample was taken.
pub record Estimate : Type 0 where
  pub round_trip : ℕ
  pub variance : ℕ
  pub sampled : Bool

-- Before the first sample.
abbrev pub fresh : Estimate
fresh = record { round_trip = 500; variance = 0; sampled = false }

-- An eighth of the way from a round trip towards a sample.
abbrev pub towards : ℕ → ℕ → ℕ
towards round_trip r =
    if nat_le round_trip r then round_trip + (r - round_trip) / 8 else round_trip - (round_trip - r) / 8

-- Three quarters of the variance, and a quarter of how far the sample is from the round trip.
abbrev pub spread : ℕ → ℕ → ℕ → ℕ
spread round_trip variance r = (variance - variance / 4) + abs_diff r round_trip / 4

-- The first sample is the round trip, and half of it, rounded up, the variance.
abbrev pub after_sample : Estimate → ℕ → Estimate
after_sample e r = record {
  round_trip = if e.sampled then towards e.round_trip r else r;
  variance = if e.sampled then spread e.round_trip e.variance r else (r + 1) / 2;
  sampled = true;
}

-- The longest that a command waits for its acknowledgement after its first send.
abbrev pub longest_timeout : ℕ
longest_timeout = 5000

-- How long a command that is sent now waits for its acknowledgement.
abbrev pub timeout : Estimate → ℕ
timeout e = min (e.round_trip + 4 * e.variance) longest_timeout

-- Round trip and variance are at most so many milliseconds.
pub record IsWithin (e : Estimate) (most : ℕ) : Type 0 where
  pub round_trip : e.round_trip ≤ most
  pub variance : e.variance ≤ most

-- An estimate stays within what bounds it and the samples.
abbrev pub StaysWithin : Type 0
StaysWithin = (e : Estimate) (r most : ℕ) → r ≤ most → IsWithin e most → IsWithin (after_sample e r) most
