-- What one slot of a host's list does or tells.
use Rattle.std.specs.Prelude.{◌≡◌, ℕ, false, Option, Some, List, slice_get, slice_set}
use Rattle.enet_codec.specs.declared.event.PeerRef.{PeerRef}
use Rattle.enet_codec.specs.declared.event.Event.{Event}
use Rattle.enet_codec.specs.declared.packet.Packet.{Packet}
use Rattle.enet_slot.specs.Slot.{SlotState, name_of}
use Rattle.enet_slot.specs.Emitting.{PeerEmits, Passes}
use Rattle.enet_slot.specs.Calls.{tells, peer_packet, GivesEvent}
use Rattle.enet_host.specs.Serving.{Served}

-- slot i gives a datagram
pub record SlotEmits (now : ℕ) (old : List SlotState) (i : ℕ) (gave : Served) (new : List SlotState) : Type 0 where
  pub slot : SlotState
  pub left : SlotState
  pub there : slice_get old i ≡ Some slot
  pub named : gave.name ≡ name_of i slot
  pub addressed : gave.address ≡ slot.address
  pub gives : PeerEmits now gave.len gave.buf slot left
  pub after : new ≡ slice_set old i left

-- slot i is asked in vain
pub record SlotPasses (now : ℕ) (old : List SlotState) (i : ℕ) (new : List SlotState) : Type 0 where
  pub slot : SlotState
  pub left : SlotState
  pub there : slice_get old i ≡ Some slot
  pub passes : Passes now slot left
  pub after : new ≡ slice_set old i left

-- slot i gives an event
pub record SlotGivesEvent (old : List SlotState) (i : ℕ) (event : Event) (new : List SlotState) : Type 0 where
  pub slot : SlotState
  pub left : SlotState
  pub there : slice_get old i ≡ Some slot
  pub gives : GivesEvent i event slot left
  pub after : new ≡ slice_set old i left

-- slot i has no event
pub record SlotIsMute (slots : List SlotState) (i : ℕ) : Type 0 where
  pub slot : SlotState
  pub there : slice_get slots i ≡ Some slot
  pub mute : tells slot ≡ false

-- slot i has a peer of this name, or its next peer gets it
pub record SlotIsNamed (slots : List SlotState) (i : ℕ) (name : PeerRef) : Type 0 where
  pub slot : SlotState
  pub there : slice_get slots i ≡ Some slot
  pub named : name ≡ name_of i slot

-- slot i shows this packet
pub record SlotShows (slots : List SlotState) (i : ℕ) (packet : Option Packet) : Type 0 where
  pub slot : SlotState
  pub there : slice_get slots i ≡ Some slot
  pub shows : packet ≡ peer_packet slot.peer
