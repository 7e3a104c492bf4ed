-- What the state of a `PartialPacket` means.
use Rattle.std.specs.Prelude.{◌≡◌, ◌<◌, ◌≤◌, ◌^◌, false, length}
use Rattle.enet_fragment.specs.declared.partial_packet.State.{State}
use Rattle.enet_fragment.specs.declared.partial_packet.State.TheVariants.{Missing, Whole}
use Rattle.enet_fragment.specs.PartialPacket.{PartialPacket}
use Rattle.enet_fragment.specs.Stored.{stored, IsStored, IsFrugal}
use Rattle.enet_fragment.specs.Whole.{is_whole, whole_of}

-- the packet in pieces that it stands for
abbrev pub gathered : State → PartialPacket
gathered (Missing store) = stored store
gathered (Whole body count cut) = whole_of body count cut

-- some piece is missing, and what came takes no more memory than it is worth; or the body is whole
abbrev pub IsKept : State → Type 0
IsKept (Missing store) = (is_whole (stored store) ≡ false) × IsStored store × IsFrugal store
IsKept (Whole body count cut) = (1 ≤ count) × (length body < 2 ^ 32)
