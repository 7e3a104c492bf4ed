-- The room that a slot's peer has for commands.
use Rattle.std.specs.Prelude.{◌≤◌, IsTrue}
use Rattle.enet_slot.specs.Sharing.{is_standing}
use Rattle.enet_slot.specs.Slotted.{Slotted}

-- where its connection stands there is room for one command of channel 0xFF
abbrev pub HasRoom : Slotted → Type 0
HasRoom s = IsTrue (is_standing s.slot) → 1 ≤ s.room
