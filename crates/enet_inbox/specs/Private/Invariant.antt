-- What the fields of an inbox keep.
use Rattle.std.specs.Prelude.{◌≡◌, ℕ, ◌<◌, Some, List, length, sum_by, slice_get}
use Rattle.enet_codec.specs.declared.packet.Packet.{Packet}
use Rattle.enet_packets.specs.Packets as packets
use Rattle.enet_receiver.specs.Receiver.{held_bytes}
use Rattle.enet_receiver.specs.Foresight.{ReceivingEnd}
use Rattle.enet_inbox.specs.Inbox.{Inbox}

-- the bytes that are held or wait at receivers
abbrev pub held_in : List ReceivingEnd → ℕ
held_in rs = sum_by (λ (r : ReceivingEnd). held_bytes r.receiver) rs

-- the bytes of the unreliable packets that wait at receivers
abbrev pub waiting_in : List ReceivingEnd → ℕ
waiting_in rs = sum_by (λ (r : ReceivingEnd). packets.bytes_in r.receiver.waiting) rs

-- how many those are
abbrev pub waiting_packets_in : List ReceivingEnd → ℕ
waiting_packets_in rs = sum_by (λ (r : ReceivingEnd). packets.packets_in r.receiver.waiting) rs

-- the bytes of packets
abbrev pub bytes_in : List Packet → ℕ
bytes_in qs = sum_by (λ (q : Packet). length q.body) qs

-- the front of a channel's receiver is a number of the wire
abbrev pub HasFront : Inbox → ℕ → Type 0
HasFront b channel = (r : ReceivingEnd) → slice_get b.receivers channel ≡ Some r → r.receiver.front < 65536
