-- Slots in turn.
use Rattle.std.specs.Prelude.{◌≡◌, ℕ, ◌+◌, ◌-◌, ◌<◌, Bool, true, false, nat_lt, if◌then◌else◌, Some, List, length, slice_get}
use Rattle.enet_slot.specs.Slot.{SlotState}

-- how many of n slots come before slot i, where slot `from` is first and slot 0 comes after the last
abbrev pub turn_of : ℕ → ℕ → ℕ → ℕ
turn_of n from i = if nat_lt i from then n - from + i else i - from

-- the slot after slot i
abbrev pub slot_after : ℕ → ℕ → ℕ
slot_after n i = if nat_lt (i + 1) n then i + 1 else 0

-- slot i is the first in turn for which this holds
pub record IsFirst (holds : SlotState → Bool) (slots : List SlotState) (from i : ℕ) : Type 0 where
  pub slot : SlotState
  pub there : slice_get slots i ≡ Some slot
  pub here : holds slot ≡ true
  pub before : (j : ℕ) (s : SlotState) → slice_get slots j ≡ Some s → turn_of (length slots) from j < turn_of (length slots) from i → holds s ≡ false

-- it holds for none of the slots
abbrev pub HoldsNowhere : (SlotState → Bool) → List SlotState → Type 0
HoldsNowhere holds slots = (j : ℕ) (s : SlotState) → slice_get slots j ≡ Some s → holds s ≡ false
