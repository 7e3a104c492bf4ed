-- All that comes to a peer.
use Rattle.std.specs.Prelude.{ℕ, ◌+◌, ◌/◌, ◌||◌, max, Bool, nat_le, if◌then◌else◌, List, [], length, map, take, sum_by}
use Rattle.std.specs.List.{range_with_len}
use Rattle.enet_codec.specs.declared.packet.Packet.{Packet}
use Rattle.enet_unsequenced.specs.Groups.{Seen, nothing_seen}
use Rattle.enet_fragment.specs.declared.data.DataCommand.{DataCommand}
use Rattle.enet_receiver.specs.Receiver.{held_bytes, held_packets}
use Rattle.enet_receiver.specs.Receiver as receiver
use Rattle.enet_receiver.specs.DataOutcome.{is_next}
use Rattle.enet_receiver.specs.Foresight.{ReceivingEnd, new_end}

pub record Inbox : Type 0 where
  pub max_packet : ℕ  -- the most bytes of a packet
  pub max_waiting : ℕ  -- the bytes that wait at which no further packet begins; the packets are place_limit
  pub receivers : List ReceivingEnd  -- by channel
  pub seen : Seen  -- the unsequenced groups that were dispatched
  pub untaken : List Packet  -- what the user hasn't taken, in the order of dispatch

-- so many channels, to which nothing came
abbrev pub empty_inbox : ℕ → ℕ → ℕ → Inbox
empty_inbox channels max_packet max_waiting = record {
  max_packet = max_packet;
  max_waiting = max_waiting;
  receivers = map (λ channel. new_end channel max_packet) (range_with_len 0 channels);
  seen = nothing_seen;
  untaken = [];
}

-- the bytes that were dispatched and not taken
abbrev pub untaken_of : Inbox → ℕ
untaken_of b = sum_by (λ (q : Packet). length q.body) b.untaken

-- the bytes that wait: held, or dispatched and not taken
abbrev pub waiting_of : Inbox → ℕ
waiting_of b = sum_by (λ (r : ReceivingEnd). held_bytes r.receiver) b.receivers + untaken_of b

-- the packets that wait: each takes a place, whether it is held, waits, is in the making, or was dispatched and not taken
abbrev pub places_of : Inbox → ℕ
places_of b = sum_by (λ (r : ReceivingEnd). held_packets r.receiver) b.receivers + length b.untaken

-- how many places there are
abbrev pub place_limit : ℕ → ℕ
place_limit max_waiting = max 1024 (max_waiting / 128)

-- whether so many bytes or so many packets are at their limit or above
abbrev pub is_at_limit : ℕ → ℕ → ℕ → Bool
is_at_limit max_waiting bytes packets = nat_le max_waiting bytes || nat_le (place_limit max_waiting) packets

-- whether so much waits that no further packet begins
abbrev pub is_full : Inbox → Bool
is_full b = is_at_limit b.max_waiting (waiting_of b) (places_of b)

-- whether the user can take so much that not even the packet that its channel dispatches next begins
abbrev pub is_full_of_untaken : Inbox → Bool
is_full_of_untaken b = is_at_limit b.max_waiting (untaken_of b) (length b.untaken)

-- whether so much waits that a command begins no packet
abbrev pub is_full_for : Inbox → ReceivingEnd → DataCommand → Bool
is_full_for b r c = if is_next r.receiver c then is_full_of_untaken b else is_full b

abbrev pub cleared_receiver : ReceivingEnd → ReceivingEnd
cleared_receiver r = record r { receiver = receiver.cleared r.receiver }

-- all that is undispatched is dropped; what wasn't taken stays
abbrev pub cleared : Inbox → Inbox
cleared b = record b { receivers = map cleared_receiver b.receivers }

-- and what wasn't taken is dropped too
abbrev pub forgotten : Inbox → Inbox
forgotten b = record (cleared b) { untaken = [] }

-- only the first channels stay
abbrev pub narrowed : Inbox → ℕ → Inbox
narrowed b channels = record b { receivers = take channels b.receivers }

abbrev pub given_way_receiver : ReceivingEnd → ReceivingEnd
given_way_receiver r = record r { receiver = receiver.without_waiting r.receiver }

-- the unreliable packets that wait or are in the making are given up on all channels
abbrev pub given_way : Inbox → Inbox
given_way b = record b { receivers = map given_way_receiver b.receivers }
