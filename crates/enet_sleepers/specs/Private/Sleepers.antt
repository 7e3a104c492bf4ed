-- Sets of slots.
use Rattle.std.specs.Prelude.{◌≡◌, ℕ, ◌<◌, Bool, false, List, length, get_or}
use Rattle.enet_deadlines.specs.Sets.{IsIn}
use Rattle.enet_slot.specs.Slot.{SlotState}
use Rattle.enet_slot.specs.Giving.{unused_slot, is_available}

-- all slots are awake
abbrev pub AllIn : List Bool → Type 0
AllIn set = (i : ℕ) → i < length set → IsIn set i

-- of the slots of a set none before this one can be given out
abbrev pub NoneOf : ℕ → List SlotState → List Bool → ℕ → Type 0
NoneOf generations slots set end = (i : ℕ) → i < end → IsIn set i → is_available generations (get_or slots i unused_slot) ≡ false
