-- Since when the peers of slots wait for their clients to confirm an answer.
use Rattle.std.specs.Prelude.{◌≡◌, ℕ, ◌+◌, ◌%◌, ◌^◌, ◌<◌, ◌≤◌, true, false, Option, Some, List, length, slice_get, slice_set}
use Rattle.enet_deadlines.specs.Moments.{IsAt}
use Rattle.enet_peer.specs.Peering.{Peering}
use Rattle.enet_slot.specs.Slot.{SlotState}
use Rattle.enet_slot.specs.Yielding.{yields}

-- what is noted of the slots of a host
pub record Waiting : Type 0 where
  pub since : List (Option ℕ)  -- when their peers were made, on a clock that doesn't wrap; of those that don't wait it says nothing
  pub clock : ℕ  -- that clock

-- few slots, and the clock is far from the end of its numbers
pub record AreFew (v : Waiting) : Type 0 where
  pub few : length v.since ≤ 65535
  pub early : v.clock < 2 ^ 62 + 2 ^ 33

-- it is noted when the peer of slot i was made
pub record IsNoted (v : Waiting) (i made : ℕ) : Type 0 where
  pub moment : ℕ
  pub at : IsAt v.since i moment
  pub shown : moment % 2 ^ 32 ≡ made
  pub past : moment ≤ v.clock
  pub near : v.clock < moment + 2 ^ 32

-- slot i's peer was made now
abbrev pub noted : Waiting → ℕ → Waiting
noted v i = record v { since = slice_set v.since i (Some v.clock) }

-- none of the slots yields
abbrev pub YieldNowhere : ℕ → List SlotState → Type 0
YieldNowhere generations slots = (i : ℕ) (s : SlotState) → slice_get slots i ≡ Some s → yields generations s ≡ false

-- Each slot of a host that yields is noted, where the host's clock shows `now`. Others may be, too.
pub record KeepsUnproved (now generations : ℕ) (v : Waiting) (slots : List SlotState) : Type 0 where
  pub count : length v.since ≡ length slots
  pub shown : v.clock % 2 ^ 32 ≡ now
  pub noted : (i : ℕ) (s : SlotState) (p : Peering) → slice_get slots i ≡ Some s → s.peer ≡ Some p → yields generations s ≡ true → IsNoted v i p.made
