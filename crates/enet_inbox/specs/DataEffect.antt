-- What a data command makes of an inbox.
use Rattle.std.specs.Prelude.{ℕ, not, ◌&&◌, Bool, true, false, is_ok, nat_lt, nat_le, if◌then◌else◌, Option, Some, None, Result, Ok, Err, List, [], ◌∷◌, ◌++◌, length, map, slice_get, slice_set}
use Rattle.enet_codec.specs.declared.packet.Packet.{Packet}
use Rattle.enet_codec.specs.declared.stop.Stop.{Stop}
use Rattle.enet_codec.specs.declared.stop.Stop.TheVariants as stop
use Rattle.enet_codec.specs.Message.{Message, Body, send_unsequenced}
use Rattle.enet_seq.specs.Windows.{acknowledges}
use Rattle.enet_unsequenced.specs.Groups.{dispatches, mark}
use Rattle.enet_fragment.specs.declared.data.DataCommand.{DataCommand}
use Rattle.enet_fragment.specs.DataCommand.{data_of}
use Rattle.enet_packets.specs.declared.incoming_packet.Dispatched.{Dispatched}
use Rattle.enet_receiver.specs.declared.took.Took.{Took}
use Rattle.enet_receiver.specs.declared.took.Took.TheVariants as took
use Rattle.enet_receiver.specs.Foresight.{ReceivingEnd, outcome_for, after_command}
use Rattle.enet_inbox.specs.Inbox.{Inbox, is_full, is_full_for, given_way}

-- what a data command makes of an inbox with ample memory: why it stops the datagram, or whether it may be acknowledged, and the
-- inbox after it
pub record DataEffect : Type 0 where
  pub answer : Result Bool Stop
  pub after : Inbox

abbrev pub stopped : Inbox → Stop → DataEffect
stopped b why = record { answer = Err why; after = b }

abbrev pub handled : Inbox → Bool → DataEffect
handled b may = record { answer = Ok may; after = b }

abbrev pub packet_of : ℕ → Dispatched → Packet
packet_of channel d = record { channel = channel; flags = d.flags; body = d.body }

abbrev pub emptied : ReceivingEnd → ReceivingEnd
emptied r = record r { receiver = record r.receiver { dispatched = [] } }

-- what a channel dispatched waits for the user
abbrev pub handed_over : Inbox → ℕ → ReceivingEnd → Inbox
handed_over b channel r = record b {
  receivers = slice_set b.receivers channel (emptied r);
  untaken = b.untaken ++ map (packet_of channel) r.receiver.dispatched;
}

abbrev pub by_took : Took → Inbox → ℕ → ReceivingEnd → DataCommand → DataEffect
by_took took.Bad b channel r c = stopped b stop.BadFragment
by_took took.Waiting b channel r c = stopped b stop.Waiting
by_took took.Memory b channel r c = stopped b stop.Memory
by_took took.Outside b channel r c = handled b (acknowledges r.receiver.front c.number)
by_took took.Again b channel r c = handled b (acknowledges r.receiver.front c.number)
by_took took.Held b channel r c = handled (handed_over b channel (after_command r (Some c) (is_full_for b r c))) (acknowledges r.receiver.front c.number)

abbrev pub sequenced_on : Inbox → ℕ → DataCommand → Option ReceivingEnd → DataEffect
sequenced_on b channel c None = stopped b stop.BadChannel
sequenced_on b channel c (Some r) = by_took (outcome_for r (Some c) (is_full_for b r c)) b channel r c

-- a sequenced data command comes
abbrev pub sequenced : Inbox → ℕ → Option DataCommand → DataEffect
sequenced b channel None = stopped b stop.BadCommand
sequenced b channel (Some c) = sequenced_on b channel c (slice_get b.receivers channel)

abbrev pub unsequenced_taken : Inbox → ℕ → ℕ → List ℕ → Inbox
unsequenced_taken b channel group payload = record b {
  seen = mark b.seen group;
  untaken = b.untaken ++ (record { channel = channel; flags = 2; body = payload }) ∷ [];
}

-- an unsequenced packet comes; it may always be acknowledged
abbrev pub unsequenced : Inbox → ℕ → ℕ → List ℕ → DataEffect
unsequenced b channel group payload =
    if nat_le (length b.receivers) channel then stopped b stop.BadChannel
    else (if nat_lt b.max_packet (length payload) then stopped b stop.BadFragment
    else (if not (dispatches b.seen group) then handled b true
    else (if is_full b then stopped b stop.Waiting
    else handled (unsequenced_taken b channel group payload) true)))

abbrev pub arrival_of : Inbox → Message → Body → DataEffect
arrival_of b m (send_unsequenced group payload) = unsequenced b m.head.channel group payload
arrival_of b m body = sequenced b m.head.channel (data_of m)

-- a data command comes, and nothing gives way to it; what is none stops the datagram as a bad command
abbrev pub plain_arrival : Inbox → Message → DataEffect
plain_arrival b m = arrival_of b m m.body

-- whether a command finds no room to begin its packet
abbrev pub is_waiting : Result Bool Stop → Bool
is_waiting (Err stop.Waiting) = true
is_waiting _ = false

-- whether a command that finds no room finds it once the unreliable packets that wait give way
abbrev pub makes_room : Inbox → Message → Bool
makes_room b m = is_waiting (plain_arrival b m).answer && is_ok (plain_arrival (given_way b) m).answer

-- the inbox that a command meets: where that makes room for it, the unreliable packets that wait are given up
abbrev pub met : Inbox → Message → Inbox
met b m = if makes_room b m then given_way b else b

-- a data command comes
abbrev pub arrival : Inbox → Message → DataEffect
arrival b m = plain_arrival (met b m) m

-- a data command that is passed over, as by a peer that dispatches nothing more: tests of channel and length alone
abbrev pub passed_length : Inbox → List ℕ → Bool → Result Bool Stop
passed_length b payload may = if nat_lt b.max_packet (length payload) then Err stop.BadFragment else Ok may

abbrev pub passed_over_on : Inbox → DataCommand → Option ReceivingEnd → Result Bool Stop
passed_over_on b c None = Err stop.BadChannel
passed_over_on b c (Some r) = passed_length b c.body (acknowledges r.receiver.front c.number)

abbrev pub passed_sequenced : Inbox → ℕ → Option DataCommand → Result Bool Stop
passed_sequenced b channel None = Err stop.BadCommand
passed_sequenced b channel (Some c) = passed_over_on b c (slice_get b.receivers channel)

abbrev pub passed_of : Inbox → Message → Body → Result Bool Stop
passed_of b m (send_unsequenced group payload) = if nat_le (length b.receivers) m.head.channel then Err stop.BadChannel else passed_length b payload true
passed_of b m body = passed_sequenced b m.head.channel (data_of m)

abbrev pub passed_over : Inbox → Message → Result Bool Stop
passed_over b m = passed_of b m m.body

-- whether something of a data command that nothing stops is kept: the packet or the piece that a receiver takes in, or the
-- unsequenced packet of a group that is new
abbrev pub is_kept_as : Took → Bool
is_kept_as took.Held = true
is_kept_as _ = false

abbrev pub is_kept_on : Inbox → DataCommand → Option ReceivingEnd → Bool
is_kept_on b c None = false
is_kept_on b c (Some r) = is_kept_as (outcome_for r (Some c) (is_full_for b r c))

abbrev pub is_kept_sequenced : Inbox → ℕ → Option DataCommand → Bool
is_kept_sequenced b channel None = false
is_kept_sequenced b channel (Some c) = is_kept_on b c (slice_get b.receivers channel)

abbrev pub is_kept_of : Inbox → Message → Body → Bool
is_kept_of b m (send_unsequenced group payload) = dispatches b.seen group
is_kept_of b m body = is_kept_sequenced b m.head.channel (data_of m)

abbrev pub is_kept : Inbox → Message → Bool
is_kept b m = is_kept_of (met b m) m m.body
