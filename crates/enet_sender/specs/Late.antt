-- What became due to go again at a moment, summed up.
use Rattle.std.specs.Prelude.{◌≡◌, ℕ, min, List, Option, Some, None, sum_by}
use Rattle.enet_rtt.specs.declared.transmission.Tick.{Tick}
use Rattle.enet_sender.specs.declared.sent.Sent.{Sent}
use Rattle.enet_sender.specs.declared.lateness.Late.{Late}
use Rattle.enet_sender.specs.Sender.{late_bytes, late_price, lost_price}

-- what a command weighs, where there is one
abbrev pub weight_at : (Sent → ℕ) → Option Sent → ℕ
weight_at weight None = 0
weight_at weight (Some p) = weight p

-- what all commands weigh
abbrev pub sum_at : (Sent → ℕ) → List (Option Sent) → ℕ
sum_at weight slots = sum_by (weight_at weight) slots

-- the greatest number of 32 bits, where sums stop
abbrev pub capped : ℕ → ℕ
capped n = min n 4294967295

-- the bytes and prices of what is late, and the prices of what was lost, of all commands of a peer
pub record IsLate (tick : Tick) (slots : List (Option Sent)) (late : Late) : Type 0 where
  pub bytes : late.bytes ≡ capped (sum_at (late_bytes tick) slots)
  pub prices : late.prices ≡ capped (sum_at (late_price tick) slots)
  pub lost : late.lost ≡ capped (sum_at (lost_price tick) slots)
