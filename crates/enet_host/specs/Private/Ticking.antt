-- Time goes on at the slots of a host.
use Rattle.std.specs.Prelude.{ℕ, List}
use Rattle.enet_slot.specs.Slot.{SlotState}
use Rattle.enet_host.specs.declared.credits.Credit.{Credit}
use Rattle.enet_host.specs.Crediting.{is_short_at}
use Rattle.enet_host.specs.Ticking.{all_moved}

-- time has come to now at each slot
abbrev pub all_ticked : ℕ → List Credit → List SlotState → List SlotState
all_ticked now credits slots = all_moved now (is_short_at credits) slots
