-- Where an offer is to go.
use Rattle.std.specs.Prelude.{◌≡◌, ℕ, ◌<◌, true, false, Some, None, List, length, slice_get}
use Rattle.std.specs.List.{list_any, position}
use Rattle.enet_codec.specs.declared.address.Addr.{Addr}
use Rattle.enet_slot.specs.declared.all.Seat.{Seat}
use Rattle.enet_slot.specs.declared.all.Seat.TheVariants.{Known, At, Full}
use Rattle.enet_slot.specs.Slot.{SlotState}
use Rattle.enet_slot.specs.Giving.{is_available}
use Rattle.enet_slot.specs.Receiving.{is_connection}

-- what is found among the slots for an offer from an address with a connect id
abbrev pub IsSeat : Addr → ℕ → ℕ → List SlotState → Seat → Type 0
IsSeat from word generations slots (Known i) =
    (list_any (is_connection from word) slots ≡ true) × (i < length slots) × ((s : SlotState) → slice_get slots i ≡ Some s → is_connection from word s ≡ true)
IsSeat from word generations slots (At i) = (list_any (is_connection from word) slots ≡ false) × (position (is_available generations) slots ≡ Some i) × (i < length slots)
IsSeat from word generations slots Full = (list_any (is_connection from word) slots ≡ false) × (position (is_available generations) slots ≡ None)
