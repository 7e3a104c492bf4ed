-- What the fields of an inbox keep.
use Rattle.std.specs.Prelude.{◌≡◌, ℕ, ◌^◌, ◌<◌, ◌≤◌, List, [], All, length, sum_by, slice_index_or}
use Rattle.enet_codec.specs.declared.packet.Packet.{Packet}
use Rattle.enet_receiver.specs.Receiver.{held_bytes, held_packets}
use Rattle.enet_receiver.specs.Foresight.{ReceivingEnd}
use Rattle.enet_receiver.specs.Room.{HasMade}
use Rattle.enet_inbox.specs.Inbox.{Inbox, waiting_of}
use Rattle.enet_inbox.specs.Bounds.{IsBounded}

-- a packet's bytes are no more than memory can have
abbrev pub IsShort : Packet → Type 0
IsShort q = length q.body < 2 ^ 63

-- the receiver of this channel, where nothing stays that it dispatched
pub record IsInPlace (most place : ℕ) (r : ReceivingEnd) : Type 0 where
  pub channel : r.channel ≡ place
  pub max_packet : r.max_packet ≡ most
  pub front : r.receiver.front < 65536
  pub none_left : r.receiver.dispatched ≡ []
  pub light : held_bytes r.receiver < 2 ^ 64
  pub small : most < 2 ^ 32
  pub made : HasMade most r.receiver

-- The receivers are in their places, and the first counter is the bytes that wait.
pub record KeepsInbox (b : Inbox) (waiting : ℕ) : Type 0 where
  pub receivers : (channel : ℕ) (d : ReceivingEnd) → channel < length b.receivers → IsInPlace b.max_packet channel (slice_index_or b.receivers channel d)
  pub few : length b.receivers ≤ 255
  pub short : All IsShort b.untaken
  pub counted : waiting ≡ waiting_of b

-- how many packets are held, wait or are in the making at receivers
abbrev pub packets_in : List ReceivingEnd → ℕ
packets_in rs = sum_by (λ (r : ReceivingEnd). held_packets r.receiver) rs

-- The second counter is those packets; no receiver has more of them than numbers allow.
pub record KeepsPackets (rs : List ReceivingEnd) (packets : ℕ) : Type 0 where
  pub few : All (λ (r : ReceivingEnd). held_packets r.receiver < 2 ^ 32) rs
  pub counted : packets ≡ packets_in rs

-- what the inbox of the receivers that are made keeps, with its two counters; no more are made than there are channels
pub record Keeps (b : Inbox) (count waiting packets : ℕ) : Type 0 where
  pub inbox : KeepsInbox b waiting
  pub places : KeepsPackets b.receivers packets
  pub bounded : IsBounded b
  pub within : length b.receivers ≤ count
