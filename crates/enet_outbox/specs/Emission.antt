-- What a peer puts into its next datagram.
use Rattle.std.specs.Prelude.{◌≡◌, ℕ, ◌+◌, ◌-◌, ◌%◌, ◌<◌, ◌≤◌, ◌&&◌, ◌==◌, not, max, Bool, true, false, nat_lt, nat_le, if◌then◌else◌, Option, Some, None, List, [], ◌∷◌, ◌++◌, length, map, take, drop, slice_get, slice_set, unwrap_or}
use Rattle.std.specs.Fn.{iterate}
use Rattle.std.specs.List.{AllByRecursion, fold, range_with_len, flat_map, list_any}
use Rattle.std.specs.Option.{option_map}
use Rattle.enet_codec.specs.declared.header.Header.{Header}
use Rattle.enet_codec.specs.Header.{header_text}
use Rattle.enet_codec.specs.Message.{IsMessage, Message, acknowledge, send_unsequenced, canonical}
use Rattle.enet_seq.specs.Numbering.{wire}
use Rattle.enet_rtt.specs.Clock.{told_time}
use Rattle.enet_throttle.specs.Throttle.{is_admitted, next_counter, transit}
use Rattle.enet_senders.specs.Controlling as controlling
use Rattle.enet_fragment.specs.DataCommand.{message_of}
use Rattle.enet_sender.specs.declared.outgoing.Kind.{Kind}
use Rattle.enet_sender.specs.declared.outgoing.Kind.TheVariants.{Reliable, Begins, More}
use Rattle.enet_sender.specs.declared.outgoing.Occasion.{Occasion}
use Rattle.enet_sender.specs.Sender.{Next, next, wants_room, with_skipped}
use Rattle.enet_sender.specs.Due.{SendingEnd, due_kind}
use Rattle.enet_outbox.specs.declared.parts.Acknowledgement.{Acknowledgement}
use Rattle.enet_outbox.specs.declared.parts.Unsequenced.{Unsequenced}
use Rattle.enet_outbox.specs.declared.parts.Pace.{Pace}
use Rattle.enet_outbox.specs.declared.parts.Destination.{Destination}
use Rattle.enet_outbox.specs.Allowance.{limit}
use Rattle.enet_outbox.specs.Traffic.{with_one_sent}
use Rattle.enet_outbox.specs.Outbox.{Outbox, released, transit_of, prices_of}

-- a datagram that is being filled: its commands, how many more bytes and commands it takes, and the outbox by now. Once a
-- command didn't fit, it is closed
pub record Filling : Type 0 where
  pub outbox : Outbox
  pub messages : List Message
  pub bytes : ℕ
  pub commands : ℕ
  pub closed : Bool

-- at first: four bytes are counted for the header
abbrev pub empty_datagram : Pace → Outbox → Filling
empty_datagram pace o = record { outbox = o; messages = []; bytes = pace.mtu - 4; commands = 32; closed = false }

abbrev pub size_of : Message → ℕ
size_of m = length (canonical m)

abbrev pub fits : Filling → Message → Bool
fits f m = nat_lt 0 f.commands && nat_le (size_of m) f.bytes

-- a command is put in, which leaves the outbox so
abbrev pub with_command : Filling → Message → Outbox → Filling
with_command f m o = record { outbox = o; messages = f.messages ++ m ∷ []; bytes = f.bytes - size_of m; commands = f.commands - 1; closed = false }

abbrev pub shut : Filling → Filling
shut f = record f { closed = true }

-- the throttle was asked
abbrev pub asked : Outbox → Outbox
asked o = record o { throttle = record o.throttle { counter = next_counter o.throttle } }

-- a closed datagram stays as it is
abbrev pub unless_closed : (Filling → Filling) → Filling → Filling
unless_closed step f = if f.closed then f else step f

-- a step so many times
abbrev pub repeated : ℕ → (Filling → Filling) → Filling → Filling
repeated times step f = iterate (unless_closed step) times f

-- first the acknowledgements, in the order of arrival
abbrev pub acknowledgement_of : Acknowledgement → Message
acknowledgement_of a = record {
  head = record { acknowledge = false; unsequenced = false; channel = a.channel; number = a.number };
  body = acknowledge a.number a.time;
}

-- the oldest goes where it fits; where it doesn't, the datagram is closed
abbrev pub acknowledgement_step : Filling → List Acknowledgement → Filling
acknowledgement_step f [] = f
acknowledgement_step f (a ∷ rest) =
    if fits f (acknowledgement_of a)
    then with_command f (acknowledgement_of a) (record f.outbox { acknowledgements = rest })
    else shut f

-- one more, if one waits
abbrev pub with_one_acknowledgement : Filling → Filling
with_one_acknowledgement f = acknowledgement_step f f.outbox.acknowledgements

abbrev pub with_acknowledgements : Filling → Filling
with_acknowledgements f = repeated (length f.outbox.acknowledgements) with_one_acknowledgement f

-- then the commands of channel 0xFF that are due or queued, by number
abbrev pub control_step : Filling → Option controlling.Next → Filling
control_step f None = f
control_step f (Some n) =
    if fits f (controlling.message_of n.command)
    then with_command f (controlling.message_of n.command) (record f.outbox { control = n.commands })
    else shut f

-- one more, if one is due or queued
abbrev pub with_one_control : Pace → Filling → Filling
with_one_control pace f = control_step f (controlling.next pace.now pace.timeout f.outbox.control)

abbrev pub control_turns : Outbox → ℕ
control_turns o = length o.control.queued + length o.control.sent

abbrev pub with_controls : Pace → Filling → Filling
with_controls pace f = repeated (control_turns f.outbox) (with_one_control pace) f

-- then the unsequenced packets as submitted; the throttle is asked of each that fits, and may drop it
abbrev pub unsequenced_of : Unsequenced → Message
unsequenced_of u = record {
  head = record { acknowledge = false; unsequenced = true; channel = u.channel; number = 0 };
  body = send_unsequenced u.group u.body;
}

abbrev pub unsequenced_asked : Filling → Unsequenced → List Unsequenced → Filling
unsequenced_asked f u rest =
    if is_admitted f.outbox.throttle
    then with_command f (unsequenced_of u) (record (asked f.outbox) { unsequenced = rest; last = Some u.channel })
    else record f { outbox = record (asked f.outbox) { unsequenced = rest } }

abbrev pub unsequenced_step : Filling → List Unsequenced → Filling
unsequenced_step f [] = f
unsequenced_step f (u ∷ rest) = if fits f (unsequenced_of u) then unsequenced_asked f u rest else shut f

-- one more, if one waits
abbrev pub with_one_unsequenced : Filling → Filling
with_one_unsequenced f = unsequenced_step f f.outbox.unsequenced

abbrev pub with_unsequenced : Filling → Filling
with_unsequenced f = repeated (length f.outbox.unsequenced) with_one_unsequenced f

-- then the channels. The payload bytes that may be in transit, and the prices
abbrev pub transit_limit : Pace → Outbox → ℕ
transit_limit pace o = transit o.throttle pace.window pace.mtu

abbrev pub price_limit : Pace → Outbox → ℕ
price_limit pace o = max (limit o.allowance) pace.mtu

abbrev pub with_sender : Outbox → ℕ → SendingEnd → Outbox
with_sender o channel s = record o { senders = slice_set o.senders channel s }

abbrev pub data_put : Filling → ℕ → SendingEnd → Next → Outbox → Filling
data_put f channel s n o =
    with_command f (message_of s.channel n.command) (record (with_sender o channel (record s { sender = n.sender })) { last = Some channel })

-- the throttle is asked of the first command of an unreliable packet, and may drop the packet; once a reliable command goes, the room is kept
-- for its channel no longer, and it counts as sent
abbrev pub data_step : Filling → ℕ → SendingEnd → Next → Kind → Filling
data_step f channel s n Reliable =
    data_put f channel s n (record f.outbox { kept = released f.outbox.kept channel; traffic = with_one_sent f.outbox.traffic n.is_resend })
data_step f channel s n More = data_put f channel s n f.outbox
data_step f channel s n Begins =
    if is_admitted f.outbox.throttle
    then data_put f channel s n (asked f.outbox)
    else record f { outbox = with_sender (asked f.outbox) channel (record s { sender = with_skipped n.sender }) }

-- what is due goes where it fits
abbrev pub due_step : Filling → ℕ → SendingEnd → Option Next → Filling
due_step f channel s None = f
due_step f channel s (Some n) =
    if fits f (message_of s.channel n.command) then data_step f channel s n (due_kind n.command) else shut f

-- whether the room in transit is kept for another channel
abbrev pub is_barred : Option ℕ → ℕ → Bool
is_barred None channel = false
is_barred (Some kept) channel = not (kept == channel)

-- what the sender of a channel is told when it is asked what is due
abbrev pub occasion : Pace → ℕ → Outbox → Occasion
occasion pace channel o = record {
  now = pace.now;
  timeout = pace.timeout;
  transit = transit_of o;
  most = transit_limit pace o;
  prices = prices_of o;
  dearest = price_limit pace o;
  barred = is_barred o.kept channel;
}

abbrev pub channel_step : Pace → ℕ → Filling → Option SendingEnd → Filling
channel_step pace channel f None = f
channel_step pace channel f (Some s) =
    due_step f channel s (next wire (occasion pace channel f.outbox) s.sender)

-- one more of a channel, if one is due
abbrev pub with_one_data : Pace → ℕ → Filling → Filling
with_one_data pace channel f = channel_step pace channel f (slice_get f.outbox.senders channel)

abbrev pub turns_of : Option SendingEnd → ℕ
turns_of None = 0
turns_of (Some s) = length s.sender.queued + length s.sender.sent

abbrev pub channel_turns : Outbox → ℕ → ℕ
channel_turns o channel = turns_of (slice_get o.senders channel)

-- whether a command asks for an acknowledgement
abbrev pub asks : Message → Bool
asks m = m.head.acknowledge

-- whether a reliable command went in a channel's turn, which led from one filling to another: it is among what went then
abbrev pub has_gone : Filling → Filling → Bool
has_gone f g = list_any asks (drop (length f.messages) g.messages)

abbrev pub wants_room_on : Pace → ℕ → Outbox → Option SendingEnd → Bool
wants_room_on pace channel o None = false
wants_room_on pace channel o (Some s) = wants_room (occasion pace channel o) s.sender

abbrev pub is_to_keep : Pace → ℕ → Filling → Filling → Bool
is_to_keep pace channel f g = wants_room_on pace channel g.outbox (slice_get g.outbox.senders channel) && not (has_gone f g)

-- where the channel wants the room by then, and nothing reliable of it went, the room is kept for it
abbrev pub keeping : Pace → ℕ → Filling → Filling → Filling
keeping pace channel f g = if is_to_keep pace channel f g then record g { outbox = record g.outbox { kept = Some channel } } else g

abbrev pub turn_ended : Pace → ℕ → Filling → Filling → Filling
turn_ended pace channel f g = unless_closed (keeping pace channel f) g

abbrev pub with_channel : Pace → Filling → ℕ → Filling
with_channel pace f channel = turn_ended pace channel f (repeated (channel_turns f.outbox channel) (with_one_data pace channel) f)

abbrev pub with_channels : Pace → List ℕ → Filling → Filling
with_channels pace order f = fold (with_channel pace) f order

-- in rising number, cyclically, beginning after the channel of the last data command that an earlier datagram had
abbrev pub turn_order : Outbox → List ℕ
turn_order o =
    map (λ turn. (unwrap_or (option_map (λ channel. channel + 1) o.last) 0 + turn) % length o.senders) (range_with_len 0 (length o.senders))

abbrev pub filled : Pace → Outbox → Filling
filled pace o = with_channels pace (turn_order o) (with_unsequenced (with_controls pace (with_acknowledgements (empty_datagram pace o))))

-- the header: the sent time stands exactly where a command asks for an acknowledgement, and the session is 0 while the other's
-- slot isn't known
abbrev pub header_for : ℕ → Destination → List Message → Header
header_for now to messages = record {
  peer = to.slot;
  session = if to.slot % 4096 == 0xFFF then 0 else to.session;
  compressed = false;
  sent = if list_any asks messages then Some (told_time now to.offset) else None;
}

abbrev pub datagram : ℕ → Destination → List Message → List ℕ
datagram now to messages = header_text (header_for now to messages) ++ flat_map canonical messages

-- a datagram of 1 to 32 commands stands at the front of the buffer. The numbers of each are in their ranges, so that its bytes spell it
pub record HasDatagram (now : ℕ) (to : Destination) (messages : List Message) (len : ℕ) (buf : List ℕ) : Type 0 where
  pub some : 0 < length messages
  pub few : length messages ≤ 32
  pub ranges : AllByRecursion IsMessage messages
  pub ends : len ≡ length (datagram now to messages)
  pub text : take len buf ≡ datagram now to messages

-- what a call of emit wrote at the front of the buffer: nothing where no command goes
abbrev pub Emits : Pace → Destination → Outbox → Option ℕ → List ℕ → Type 0
Emits pace to old None buf = (filled pace old).messages ≡ []
Emits pace to old (Some len) buf = HasDatagram pace.now to (filled pace old).messages len buf
