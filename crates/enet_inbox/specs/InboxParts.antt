-- An inbox of its parts, and the parts of what it answers.
use Rattle.std.specs.Prelude.{ℕ, Bool, true, false, not, nat_le, nat_lt, if◌then◌else◌, Option, Some, None, Result, Ok, Err, List, length, slice_get}
use Rattle.enet_codec.specs.Message.{Message, Body, send_unsequenced}
use Rattle.enet_fragment.specs.DataCommand.{data_of}
use Rattle.enet_codec.specs.declared.packet.Packet.{Packet}
use Rattle.enet_codec.specs.declared.stop.Stop.{Stop}
use Rattle.enet_codec.specs.declared.stop.Stop.TheVariants as stop
use Rattle.enet_unsequenced.specs.Groups.{Seen, dispatches}
use Rattle.enet_fragment.specs.declared.data.DataCommand.{DataCommand}
use Rattle.enet_receiver.specs.declared.took.Took.{Took}
use Rattle.enet_receiver.specs.declared.took.Took.TheVariants as took
use Rattle.enet_receiver.specs.declared.took.Foresight.{Foresight}
use Rattle.enet_receiver.specs.Foresight.{ReceivingEnd}
use Rattle.enet_receiver.specs.Foresight as receiving
use Rattle.enet_inbox.specs.declared.arriving.Foreseen.{Foreseen}
use Rattle.enet_inbox.specs.Inbox.{Inbox, is_full, is_full_for, given_way}
use Rattle.enet_inbox.specs.DataEffect.{plain_arrival, makes_room}

abbrev pub inbox_of : ℕ → ℕ → List ReceivingEnd → Seen → List Packet → Inbox
inbox_of max_packet max_waiting receivers seen untaken =
    record { max_packet = max_packet; max_waiting = max_waiting; receivers = receivers; seen = seen; untaken = untaken }

abbrev pub foresight_on : Inbox → DataCommand → Option ReceivingEnd → Result Foresight Stop
foresight_on b c None = Err stop.BadChannel
foresight_on b c (Some r) = Ok (receiving.foreseen r (Some c) (is_full_for b r c))

-- what the receiver of its channel would do with a sequenced data command
abbrev pub foresight_of : Inbox → ℕ → Option DataCommand → Result Foresight Stop
foresight_of b channel None = Err stop.BadCommand
foresight_of b channel (Some c) = foresight_on b c (slice_get b.receivers channel)

-- whether an unsequenced packet is dispatched, or why it stops the datagram
abbrev pub unsequenced_verdict : Inbox → ℕ → ℕ → List ℕ → Result Bool Stop
unsequenced_verdict b channel group payload =
    if nat_le (length b.receivers) channel then Err stop.BadChannel
    else (if nat_lt b.max_packet (length payload) then Err stop.BadFragment
    else (if not (dispatches b.seen group) then Ok false
    else (if is_full b then Err stop.Waiting else Ok true)))

-- what becomes of a data command, as it is handed on
abbrev pub seen_by : Took → Foresight → Result Foreseen Stop
seen_by took.Held f = Ok (record { acknowledged = f.acknowledged; kept = true; makes_room = false; dispatches = f.dispatches })
seen_by took.Again f = Ok (record { acknowledged = f.acknowledged; kept = false; makes_room = false; dispatches = f.dispatches })
seen_by took.Outside f = Ok (record { acknowledged = f.acknowledged; kept = false; makes_room = false; dispatches = f.dispatches })
seen_by took.Bad f = Err stop.BadFragment
seen_by took.Waiting f = Err stop.Waiting
seen_by took.Memory f = Err stop.Memory

abbrev pub seen : Foresight → Result Foreseen Stop
seen f = seen_by f.took f

abbrev pub seen_of : Result Foresight Stop → Result Foreseen Stop
seen_of (Err why) = Err why
seen_of (Ok f) = seen f

abbrev pub foreseen_sequenced : Inbox → ℕ → Option DataCommand → Result Foreseen Stop
foreseen_sequenced b channel o = seen_of (foresight_of b channel o)

abbrev pub seen_new : Result Bool Stop → Result Foreseen Stop
seen_new (Err why) = Err why
seen_new (Ok is_new) = Ok (record { acknowledged = true; kept = is_new; makes_room = false; dispatches = if is_new then 1 else 0 })

abbrev pub foreseen_of : Inbox → Message → Body → Result Foreseen Stop
foreseen_of b m (send_unsequenced group payload) = seen_new (unsequenced_verdict b m.head.channel group payload)
foreseen_of b m body = foreseen_sequenced b m.head.channel (data_of m)

-- what becomes of a data command where nothing gives way to it
abbrev pub plain_foreseen : Inbox → Message → Result Foreseen Stop
plain_foreseen b m = foreseen_of b m m.body

-- what becomes of a command once the unreliable packets that wait have given way, by its answer then
abbrev pub with_room : Result Bool Stop → Result Foreseen Stop
with_room (Err why) = Err why
with_room (Ok may) = Ok (record { acknowledged = may; kept = true; makes_room = true; dispatches = 0 })

abbrev pub foreseen : Inbox → Message → Result Foreseen Stop
foreseen b m = if makes_room b m then with_room (plain_arrival (given_way b) m).answer else plain_foreseen b m

-- its answer: why it stops the datagram, or whether it may be acknowledged
abbrev pub told : Result Foreseen Stop → Result Bool Stop
told (Err why) = Err why
told (Ok f) = Ok f.acknowledged
