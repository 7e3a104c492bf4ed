-- What the commands of a connection have to do with one another. `marks` are these, in order, and a place is one of them, counted from 0.
--
-- A *send* is a command that asks for an acknowledgement, in one datagram: it goes by its way, channel and number, and by the time at which
-- the datagram was sent. An ACKNOWLEDGE belongs to the last send before it that went the other way with its channel, number and sent time.
use Rattle.std.specs.Prelude.{◌-◌, ◌==◌, ◌&&◌, ℕ, zero, suc, nat_le, Bool, false, if◌then◌else◌, List, length, take, count_by, slice_get, Option, Some, None, is_some}
use Rattle.enet_captured.specs.declared.timeline.Way.{Way}
use Rattle.enet_captured.specs.declared.timeline.Way.TheVariants.{Right, Left}
use Rattle.enet_captured.specs.declared.timeline.Mark.{Mark}
use Rattle.enet_captured.specs.declared.told.Detail.{Detail}
use Rattle.enet_captured.specs.declared.told.Detail.TheVariants.{Nothing, Received, Offered, Unreliable, Group, Piece}
use Rattle.enet_captured.specs.Counts.{same_way}

abbrev pub other_way : Way → Way
other_way Right = Left
other_way Left = Right

-- What a command goes by: the number of its way, its channel, its number, and a time.
abbrev pub Key : Type 0
Key = ℕ × ℕ × ℕ × ℕ

abbrev pub same_key : Key → Key → Bool
same_key a b = ((a.0 == b.0 && a.1 == b.1) && a.2 == b.2) && a.3 == b.3

abbrev pub way_number : Way → ℕ
way_number Right = 0
way_number Left = 1

abbrev pub key_at_time : Way → Mark → ℕ → Option ℕ → Option Key
key_at_time way mark number None = None
key_at_time way mark number (Some time) = Some (way_number way, mark.told.channel, number, time)

-- What a send goes by. One in a datagram without a sent time is never acknowledged, and goes by nothing.
abbrev pub send_key : Mark → Option Key
send_key mark = if mark.told.asks then key_at_time mark.way mark mark.told.number mark.sent else None

-- What it goes by at whatever time it is sent.
abbrev pub command_key : Mark → Option Key
command_key mark = if mark.told.asks then key_at_time mark.way mark mark.told.number (Some 0) else None

-- What the send goes by that a command acknowledges.
abbrev pub acknowledged_by : Mark → Detail → Option Key
acknowledged_by mark Nothing = None
acknowledged_by mark (Received number time) = key_at_time (other_way mark.way) mark number (Some time)
acknowledged_by mark (Offered id) = None
acknowledged_by mark (Unreliable n) = None
acknowledged_by mark (Group n) = None
acknowledged_by mark (Piece n m) = None

abbrev pub acknowledged_key : Mark → Option Key
acknowledged_key mark = acknowledged_by mark mark.told.detail

-- What the command at a place goes by.
abbrev pub key_of : (Mark → Option Key) → Option Mark → Option Key
key_of key None = None
key_of key (Some mark) = key mark

abbrev pub at : (Mark → Option Key) → List Mark → ℕ → Option Key
at key marks place = key_of key (slice_get marks place)

-- The last place before this one that goes by what is asked for.
abbrev pub is_key : Key → Option Key → Bool
is_key asked None = false
is_key asked (Some key) = same_key key asked

abbrev pub last_with : (ℕ → Option Key) → Key → ℕ → Option ℕ
last_with keys asked zero = None
last_with keys asked (suc n) = if is_key asked (keys n) then Some n else last_with keys asked n

abbrev pub last_of : (ℕ → Option Key) → Option Key → ℕ → Option ℕ
last_of keys None place = None
last_of keys (Some asked) place = last_with keys asked place

-- How many of the commands before a place ask for an acknowledgement and go its way.
abbrev pub asks_on : Way → Mark → Bool
asks_on way mark = mark.told.asks && same_way mark.way way

abbrev pub turn_among : List Mark → Option Mark → ℕ
turn_among before None = 0
turn_among before (Some mark) = count_by (asks_on mark.way) before

abbrev pub turn : List Mark → ℕ → ℕ
turn marks place = turn_among (take place marks) (slice_get marks place)

-- A place before this one, if it is among the last 4,096 that ask for an acknowledgement and go its way.
abbrev pub near : (ℕ → ℕ) → ℕ → Option ℕ → Option ℕ
near turns place None = None
near turns place (Some before) = if nat_le (turns place - turns before) 4096 then Some before else None

-- The send was seen before: the same datagram, once more.
abbrev pub seen_before : List Mark → ℕ → Option ℕ
seen_before marks place = near (turn marks) place (last_of (at send_key marks) (at send_key marks place) place)

-- What a send goes by that wasn't seen before.
abbrev pub unless_seen : Option ℕ → Option Key → Option Key
unless_seen seen key = if is_some seen then None else key

abbrev pub new_at : (Mark → Option Key) → List Mark → ℕ → Option Key
new_at key marks place = unless_seen (seen_before marks place) (at key marks place)

-- The send before this one with its way, channel and number: this one is sent again.
abbrev pub went_before : List Mark → ℕ → Option ℕ
went_before marks place = near (turn marks) place (last_of (new_at command_key marks) (new_at command_key marks place) place)

-- The send that an acknowledgement belongs to.
abbrev pub belongs_to : List Mark → ℕ → Option ℕ
belongs_to marks place = last_of (new_at send_key marks) (at acknowledged_key marks place) place

-- The first place below this one whose link leads to a place.
abbrev pub leads_to : ℕ → Option ℕ → Bool
leads_to place None = false
leads_to place (Some target) = target == place

abbrev pub or_here : Option ℕ → Bool → ℕ → Option ℕ
or_here None here n = if here then Some n else None
or_here (Some found) here n = Some found

abbrev pub first_to : (ℕ → Option ℕ) → ℕ → ℕ → Option ℕ
first_to links place zero = None
first_to links place (suc n) = or_here (first_to links place n) (leads_to place (links n)) n

-- When it is sent again first, and when it is acknowledged first.
abbrev pub goes_again : List Mark → ℕ → Option ℕ
goes_again marks place = first_to (went_before marks) place (length marks)

abbrev pub is_acknowledged : List Mark → ℕ → Option ℕ
is_acknowledged marks place = first_to (belongs_to marks) place (length marks)
