-- The number and the name of each refusal.
use Rattle.std.specs.Prelude.{ℕ, List, codes}
use Rattle.enet_codec.specs.declared.refusal.Refusal.{Refusal}
use Rattle.enet_codec.specs.declared.refusal.Refusal.TheVariants.{Memory, NoSuchPeer, NotConnected, NoSuchChannel, TooLarge, WindowEnd, NoSlot, BadConfig, Full, SeatSpent, Late, Earlier, NoSuchDatagram, WireFault, BadScript, StillHeld, NoSuchHost}

abbrev pub label_of : Refusal → List ℕ
label_of Memory = codes "E1 Memory"
label_of NoSuchPeer = codes "E2 NoSuchPeer"
label_of NotConnected = codes "E3 NotConnected"
label_of NoSuchChannel = codes "E4 NoSuchChannel"
label_of TooLarge = codes "E5 TooLarge"
label_of WindowEnd = codes "E6 WindowEnd"
label_of NoSlot = codes "E7 NoSlot"
label_of BadConfig = codes "E8 BadConfig"
label_of Full = codes "E9 Full"
label_of SeatSpent = codes "E10 SeatSpent"
label_of Late = codes "E11 Late"
label_of Earlier = codes "E12 Earlier"
label_of NoSuchDatagram = codes "E13 NoSuchDatagram"
label_of WireFault = codes "E14 WireFault"
label_of (BadScript line) = codes "E15 BadScript"
label_of StillHeld = codes "E16 StillHeld"
label_of NoSuchHost = codes "E17 NoSuchHost"
