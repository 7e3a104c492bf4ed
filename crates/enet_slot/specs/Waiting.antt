-- A slot that has nothing to do until a call, a datagram or a moment brings it something.
use Rattle.std.specs.Prelude.{Option, Some, None, ⊤}
use Rattle.enet_peer.specs.Peering.{Peering}
use Rattle.enet_peer.specs.Waiting as peers
use Rattle.enet_slot.specs.Slot.{SlotState}

-- it is free, or its peer only waits
abbrev pub waits_in : Option Peering → Type 0
waits_in None = ⊤
waits_in (Some p) = peers.Waits p

abbrev pub Waits : SlotState → Type 0
Waits s = waits_in s.peer
