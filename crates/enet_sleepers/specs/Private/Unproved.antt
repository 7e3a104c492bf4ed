-- What is noted of those that wait for their clients, and when it is noted anew.
use Rattle.std.specs.Prelude.{◌≡◌, ℕ, ◌+◌, ◌-◌, ◌^◌, ◌<◌, ◌≤◌, Option, None, Some, List, length, get_or, slice_get}
use Rattle.enet_rtt.specs.Clock.{elapsed_time}
use Rattle.enet_deadlines.specs.Moments.{IsAt}
use Rattle.enet_peer.specs.Peering.{Peering}
use Rattle.enet_slot.specs.Slot.{SlotState}

-- when a peer was made, on a clock that doesn't wrap
abbrev pub moment_made : (clock now : ℕ) → Option Peering → Option ℕ
moment_made clock now None = None
moment_made clock now (Some p) = Some (clock - elapsed_time now p.made)

-- the first slots are noted so
abbrev pub AreNoted : (clock now : ℕ) → List (Option ℕ) → List SlotState → ℕ → Type 0
AreNoted clock now since slots n = (i : ℕ) (s : SlotState) → i < n → slice_get slots i ≡ Some s → get_or since i None ≡ moment_made clock now s.peer

-- the clock is far from the end of its numbers, and has not come round since what is noted
pub record IsNear (clock : ℕ) (since : List (Option ℕ)) : Type 0 where
  pub early : clock < 2 ^ 62
  pub all : (i m : ℕ) → IsAt since i m → clock < m + 2 ^ 32

-- the earliest moment is noted of this slot, and of none before it
pub record IsFirstNoted (since : List (Option ℕ)) (i : ℕ) : Type 0 where
  pub within : i < length since
  pub moment : ℕ
  pub at : IsAt since i moment
  pub least : (j m : ℕ) → IsAt since j m → moment ≤ m
  pub first : (j m : ℕ) → j < i → IsAt since j m → moment < m
