-- A slot of the code as the contracts of its calls see it.
use Rattle.std.specs.Prelude.{ℕ, Option, Some, None, List, map}
use Rattle.enet_peer.specs.Peered.{Peered}
use Rattle.enet_peer.specs.Peering.{Peering}
use Rattle.enet_slot.specs.Slot.{SlotState}

-- the slot, and for how many more commands of channel 0xFF its peer has room
pub record Slotted : Type 0 where
  pub slot : SlotState
  pub room : ℕ

abbrev pub peer_shown : Option Peered → Option Peering
peer_shown None = None
peer_shown (Some p) = Some p.peer

abbrev pub room_of : Option Peered → ℕ
room_of None = 0
room_of (Some p) = p.room

-- slots as they are, without their room
abbrev pub shown : Slotted → SlotState
shown s = s.slot

abbrev pub all_shown : List Slotted → List SlotState
all_shown slots = map shown slots
