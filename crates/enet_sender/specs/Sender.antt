-- One channel's sender: what is queued, and what is sent and not yet acknowledged. Times are in milliseconds.
use Rattle.std.specs.Prelude.{ℕ, Bool, true, false, ◌+◌, ◌*◌, ◌%◌, ◌^◌, ◌&&◌, ◌||◌, not, ◌==◌, nat_lt, nat_le, if◌then◌else◌, List, [], ◌∷◌, ◌++◌, length, map, take, drop, Option, Some, None, slice_get, slice_set, sum_by, is_some}
use Rattle.std.specs.List.{range_with_len, list_any, position, remove}
use Rattle.enet_codec.specs.declared.command.Fragment.{Fragment}
use Rattle.enet_seq.specs.Numbering.{Numbering}
use Rattle.enet_rtt.specs.Transmission as transmission
use Rattle.enet_rtt.specs.declared.transmission.Tick.{Tick}
use Rattle.enet_rtt.specs.declared.expiry.Patience.{Patience}
use Rattle.enet_rtt.specs.declared.expiry.Expiry.{Expiry}
use Rattle.enet_rtt.specs.declared.expiry.Expiry.TheVariants.{No, Resend, End}
use Rattle.enet_fragment.specs.Cutting.{piece_length}
use Rattle.enet_fragment.specs.declared.data.DataCommand.{DataCommand}
use Rattle.enet_sender.specs.declared.sent.Sent.{Sent}
use Rattle.enet_sender.specs.declared.outgoing.Acknowledged.{Acknowledged}
use Rattle.enet_sender.specs.declared.outgoing.Left.{Left}
use Rattle.enet_sender.specs.declared.outgoing.Occasion.{Occasion}
use Rattle.enet_sender.specs.CommandChoice.{Packet, ChosenPacket, carried_as, is_long}

pub record Sender : Type 0 where
  pub number : ℕ  -- the last reliable number given
  pub unreliable : ℕ  -- the last unreliable number given since
  pub queued : List DataCommand
  pub sent : List Sent  -- sent and not acknowledged, in the order of their first sends

abbrev pub nothing_sent : Sender
nothing_sent = record { number = 0; unreliable = 0; queued = []; sent = [] }

-- piece i of a body that is cut at each multiple of `size`
abbrev pub piece_of_body : ℕ → List ℕ → ℕ → List ℕ
piece_of_body size body i = take size (drop (i * size) body)

abbrev pub fragment_at : ℕ → ChosenPacket → ℕ → ℕ → Fragment
fragment_at size c start i = record { start = start; count = c.pieces; number = i; total = length c.packet.body; offset = i * size }

-- the last reliable number, and the last unreliable number since
pub record LastNumbers : Type 0 where
  pub number : ℕ
  pub unreliable : ℕ

-- command i of a packet, the numbers before it being given. A reliable piece has a number of its own, the pieces of an unreliable
-- packet share theirs
abbrev pub command_at : Numbering → ℕ → LastNumbers → ChosenPacket → ℕ → DataCommand
command_at g mtu last c i = record {
  reliable = c.reliable;
  number = if c.reliable then g.after last.number (i + 1) else last.number;
  unreliable = if c.reliable then 0 else last.unreliable + 1;
  fragment = if is_long mtu c.packet then Some (fragment_at (piece_length mtu) c (if c.reliable then g.after last.number 1 else last.unreliable + 1) i) else None;
  body = piece_of_body (piece_length mtu) c.packet.body i;
}

abbrev pub commands_of : Numbering → ℕ → ℕ → ℕ → ChosenPacket → List DataCommand
commands_of g mtu number count c = map (command_at g mtu (record { number = number; unreliable = count }) c) (range_with_len 0 c.pieces)

abbrev pub with_queued : Numbering → ℕ → Sender → ChosenPacket → Sender
with_queued g mtu s c = record {
  number = if c.reliable then g.after s.number c.pieces else s.number;
  unreliable = if c.reliable then 0 else s.unreliable + 1;
  queued = s.queued ++ commands_of g mtu s.number s.unreliable c;
  sent = s.sent;
}

-- a packet is submitted
abbrev pub submitted : Numbering → ℕ → Sender → Packet → Sender
submitted g mtu s p = with_queued g mtu s (carried_as mtu s.unreliable p)

-- sent once more
abbrev pub again : ℕ → Sent → Sent
again now p = record p { transmission = transmission.again now p.transmission }

-- sent for the first time
abbrev pub begun : ℕ → ℕ → DataCommand → Sent
begun now timeout c = record { command = c; transmission = transmission.begun now timeout }

-- a command goes for the first time only where its number is less than 8,192 past the oldest unacknowledged one
abbrev pub is_in_span : Numbering → List Sent → ℕ → Bool
is_in_span g [] number = true
is_in_span g (oldest ∷ sent) number = nat_lt (g.ahead oldest.command.number number) 8192

-- what a datagram takes on the line beside ENet's own bytes: the headers of IP and UDP
abbrev pub cover : ℕ
cover = 28

-- what a command counts in transit, if it is reliable: the bytes of its payload
abbrev pub bytes_of : DataCommand → ℕ
bytes_of c = if c.reliable then length c.body else 0

-- and its price: these and the headers, since it may go alone
abbrev pub price_of : DataCommand → ℕ
price_of c = if c.reliable then length c.body + cover else 0

-- whether there is room for it: payloads and prices of what is in transit, each with its own, are at most what they may be
abbrev pub has_room : Occasion → DataCommand → Bool
has_room o c = nat_le (o.transit + bytes_of c) o.most && nat_le (o.prices + price_of c) o.dearest

-- whether a reliable command may go for the first time, the span apart: the room is kept for no other channel, and there is room for it
abbrev pub may_begin : Occasion → DataCommand → Bool
may_begin o c = not o.barred && has_room o c

-- whether the head of the queue may go
abbrev pub may_go : Numbering → List Sent → Occasion → DataCommand → Bool
may_go g sent o c = not c.reliable || (is_in_span g sent c.number && may_begin o c)

-- what is due next: a command with the sender after it
pub record Next : Type 0 where
  pub command : DataCommand
  pub added : ℕ  -- bytes new in transit
  pub price : ℕ  -- prices new in transit
  pub is_resend : Bool  -- whether it went before
  pub sender : Sender

-- a command that goes again is in transit again
abbrev pub resent : ℕ → Sender → ℕ → Sent → Next
resent now s i p = record {
  command = p.command;
  added = bytes_of p.command;
  price = price_of p.command;
  is_resend = true;
  sender = record s { sent = slice_set s.sent i (again now p) };
}

abbrev pub first_sent : ℕ → ℕ → Sender → DataCommand → List DataCommand → Next
first_sent now timeout s c rest = record {
  command = c;
  added = bytes_of c;
  price = price_of c;
  is_resend = false;
  sender = record s { queued = rest; sent = if c.reliable then s.sent ++ begun now timeout c ∷ [] else s.sent };
}

abbrev pub next_queued : Numbering → Occasion → Sender → List DataCommand → Option Next
next_queued g o s [] = None
next_queued g o s (c ∷ rest) = if may_go g s.sent o c then Some (first_sent o.now o.timeout s c rest) else None

abbrev pub next_resent : Occasion → Sender → ℕ → Option Sent → Option Next
next_resent o s i None = None
next_resent o s i (Some p) = if has_room o p.command then Some (resent o.now s i p) else None

abbrev pub next_of : Numbering → Occasion → Sender → Option ℕ → Option Next
next_of g o s None = next_queued g o s s.queued
next_of g o s (Some i) = next_resent o s i (slice_get s.sent i)

-- the first sent command that is due to go again, where there is room for it; where none is due, the head of the queue, where it may go
abbrev pub next : Numbering → Occasion → Sender → Option Next
next g o s = next_of g o s (position (λ (p : Sent). p.transmission.due) s.sent)

-- a command is stopped for want of room alone
abbrev pub lacks_room : Occasion → DataCommand → Bool
lacks_room o c = not (has_room o c) && not o.barred

-- the same of what is due to go again, and of the head of the queue where nothing of the channel is sent and unacknowledged
abbrev pub due_lacks : Occasion → Option Sent → Bool
due_lacks o None = false
due_lacks o (Some p) = lacks_room o p.command

abbrev pub head_lacks : Occasion → List Sent → List DataCommand → Bool
head_lacks o [] (c ∷ rest) = c.reliable && lacks_room o c
head_lacks o [] [] = false
head_lacks o (p ∷ sent) queued = false

abbrev pub wants_room_at : Occasion → Sender → Option ℕ → Bool
wants_room_at o s None = head_lacks o s.sent s.queued
wants_room_at o s (Some i) = due_lacks o (slice_get s.sent i)

-- whether the room in transit is to be kept for the channel: what is next there is stopped for want of room alone, and it is due to go again,
-- or nothing of the channel is sent and unacknowledged
abbrev pub wants_room : Occasion → Sender → Bool
wants_room o s = wants_room_at o s (position (λ (p : Sent). p.transmission.due) s.sent)

-- whether the queue begins with a reliable command
abbrev pub begins_reliable : List DataCommand → Bool
begins_reliable [] = false
begins_reliable (c ∷ rest) = c.reliable

abbrev pub awaits_room_with : List Sent → List DataCommand → Bool
awaits_room_with [] queued = begins_reliable queued
awaits_room_with (p ∷ sent) queued = list_any (λ (p : Sent). p.transmission.due) (p ∷ sent)

-- whether room may be kept for the channel: something is due to go again; or nothing is sent, and the queue begins with a reliable command
abbrev pub awaits_room : Sender → Bool
awaits_room s = awaits_room_with s.sent s.queued

-- a piece that isn't the first of its packet
abbrev pub is_after_first : Option Fragment → Bool
is_after_first None = false
is_after_first (Some f) = nat_lt 0 f.number

-- a further command of an unreliable packet
abbrev pub is_more : DataCommand → Bool
is_more c = not c.reliable && is_after_first c.fragment

-- the rest of the unreliable packet that was begun is dropped
abbrev pub skipped : List DataCommand → List DataCommand
skipped [] = []
skipped (c ∷ cs) = if is_more c then skipped cs else c ∷ cs

abbrev pub with_skipped : Sender → Sender
with_skipped s = record s { queued = skipped s.queued }

-- where the sent command of this number stands
abbrev pub position_of : ℕ → List Sent → Option ℕ
position_of number sent = position (λ (p : Sent). p.command.number == number) sent

abbrev pub without_place : List Sent → Option ℕ → List Sent
without_place sent None = sent
without_place sent (Some i) = remove sent i

-- an acknowledgement that matches removes the sent command of its number
abbrev pub after_acknowledgement : Sender → ℕ → Sender
after_acknowledgement s number = record s { sent = without_place s.sent (position_of number s.sent) }

-- what is told of a command whose acknowledgement repeats this time: what it counts in transit, whether it was due to go again, and whether
-- the time is that of its last send
abbrev pub told_of : ℕ → Sent → Acknowledged
told_of time p = record {
  bytes = bytes_of p.command;
  price = price_of p.command;
  due = p.transmission.due;
  last = time == p.transmission.last % 2 ^ 16;
}

-- nothing where it wasn't sent then
abbrev pub matching : ℕ → Option Sent → Option Acknowledged
matching time None = None
matching time (Some p) = if transmission.went_at time p.transmission then Some (told_of time p) else None

abbrev pub matching_at : ℕ → List Sent → Option ℕ → Option Acknowledged
matching_at time sent None = None
matching_at time sent (Some i) = matching time (slice_get sent i)

-- what is told of the command that an acknowledgement matches: the sent one of its number, where the time that it repeats is that of a
-- send of it
abbrev pub acknowledged : Sender → ℕ → ℕ → Option Acknowledged
acknowledged s number time = matching_at time s.sent (position_of number s.sent)

-- one that matches nothing changes nothing
abbrev pub after_match : Sender → ℕ → Option Acknowledged → Sender
after_match s number None = s
after_match s number (Some told) = after_acknowledgement s number

-- In transit is what is sent, not acknowledged and not due to go again. Its payload bytes, and its prices
abbrev pub transit_bytes : Sent → ℕ
transit_bytes p = if p.transmission.due then 0 else bytes_of p.command

abbrev pub bytes_in_transit : Sender → ℕ
bytes_in_transit s = sum_by transit_bytes s.sent

abbrev pub transit_price : Sent → ℕ
transit_price p = if p.transmission.due then 0 else price_of p.command

abbrev pub prices_in_transit : Sender → ℕ
prices_in_transit s = sum_by transit_price s.sent

-- what leaves the transit with an acknowledgement: nothing where the command was due to go again
abbrev pub bytes_leaving : Option Acknowledged → ℕ
bytes_leaving None = 0
bytes_leaving (Some a) = if a.due then 0 else a.bytes

abbrev pub price_leaving : Option Acknowledged → ℕ
price_leaving None = 0
price_leaving (Some a) = if a.due then 0 else a.price

-- a sent command that waited out its timeout, and is not due to go again already
abbrev pub is_late : ℕ → Sent → Bool
is_late now p = transmission.is_late now p.transmission

-- where it is late, it is due to go again, and has its next timeout then
abbrev pub marked : Tick → Sent → Sent
marked tick p = record p { transmission = transmission.marked tick p.transmission }

-- all that is late is due to go again
abbrev pub with_marked : Tick → Sender → Sender
with_marked tick s = record s { sent = map (marked tick) s.sent }

-- So it leaves the transit: its payload bytes, and its prices
abbrev pub late_bytes : Tick → Sent → ℕ
late_bytes tick p = if is_late tick.now p then bytes_of p.command else 0

abbrev pub late_price : Tick → Sent → ℕ
late_price tick p = if is_late tick.now p then price_of p.command else 0

-- it is late, and the peer was heard since its last send: so it was lost on a line that is up
abbrev pub is_lost : Tick → Sent → Bool
is_lost tick p = is_late tick.now p && transmission.is_heard_since tick p.transmission

abbrev pub lost_price : Tick → Sent → ℕ
lost_price tick p = if is_lost tick p then price_of p.command else 0

-- it is late, and the peer, last heard at `heard`, has timed out over it
abbrev pub ends : ℕ → Patience → ℕ → Sent → Bool
ends now patience heard p = transmission.ends now patience heard p.transmission

-- what a moment brings: the end of the peer, resends, or nothing
abbrev pub lateness : ℕ → Patience → ℕ → Sender → Expiry
lateness now patience heard s =
    if is_some (position (ends now patience heard) s.sent) then End
    else (if is_some (position (is_late now) s.sent) then Resend else No)

-- the end changes nothing here
abbrev pub after_lateness : Expiry → Tick → Sender → Sender
after_lateness No tick s = s
after_lateness Resend tick s = with_marked tick s
after_lateness End tick s = s

-- all that is queued or sent is dropped, and the numbers stay
abbrev pub cleared : Sender → Sender
cleared s = record s { queued = []; sent = [] }

-- whether a packet is queued, and whether a reliable command is queued or unacknowledged
abbrev pub left : Sender → Left
left s = record {
  packets = nat_lt 0 (length s.queued);
  reliable = is_some (position (λ (c : DataCommand). c.reliable) s.queued) || nat_lt 0 (length s.sent);
}
