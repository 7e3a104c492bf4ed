-- What of the slots is known to be due within a second.
use Rattle.std.specs.Prelude.{◌≡◌, ℕ, ◌^◌, ◌<◌, ◌&&◌, Bool, true, false, Some, List, slice_get}
use Rattle.std.specs.List.{list_any}
use Rattle.enet_rtt.specs.Clock.{elapsed_time, HappensIn}
use Rattle.enet_slot.specs.Slot.{SlotState}
use Rattle.enet_sleepers.specs.Soon.{is_soon, is_due_soon}

-- from the moment `now` on it first happens after so many milliseconds, if that is within a second
abbrev pub HappensSoon : (ℕ → Bool) → ℕ → ℕ → Type 0
HappensSoon happens now wait = HappensIn (λ later. is_soon now later && happens later) now wait

-- Of some slots it is known that none of them is soon due within so many milliseconds, and then one slot is, unless that is the
-- greatest number of 32 bits.
pub record KnowsDue (now : ℕ) (slots : List SlotState) (known : ℕ → Type 0) (wait : ℕ) : Type 0 where
  pub before : (later : ℕ) → later < 2 ^ 32 → elapsed_time later now < wait → (i : ℕ) (s : SlotState) → slice_get slots i ≡ Some s → known i → is_due_soon now later s ≡ false
  pub first : wait < 4294967295 → (later : ℕ) → later < 2 ^ 32 → elapsed_time later now ≡ wait → list_any (is_due_soon now later) slots ≡ true
