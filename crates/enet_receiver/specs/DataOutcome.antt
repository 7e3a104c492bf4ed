-- What becomes of a sequenced data command that comes.
use Rattle.std.specs.Prelude.{ℕ, Bool, true, false, ◌+◌, ◌-◌, ◌%◌, ◌&&◌, ◌||◌, not, ◌==◌, nat_le, if◌then◌else◌, length, Option, Some, None}
use Rattle.std.specs.Option.{is_some, is_none}
use Rattle.std.specs.FinMap.{get, insert}
use Rattle.enet_seq.specs.Windows.{acknowledges, after}
use Rattle.enet_seq.specs.Numbering.{Numbering, number_read, start_read}
use Rattle.enet_fragment.specs.Place.{is_sound}
use Rattle.enet_fragment.specs.PartialPacket.{nothing_yet, belongs, piece_at, with_piece}
use Rattle.enet_fragment.specs.declared.data.DataCommand.{DataCommand}
use Rattle.enet_fragment.specs.DataCommand.{piece_of, place_in_packet}
use Rattle.enet_packets.specs.declared.incoming_packet.IncomingPacket.{IncomingPacket}
use Rattle.enet_packets.specs.Packets.{line_at, with_line}
use Rattle.enet_receiver.specs.declared.took.Took.{Took}
use Rattle.enet_receiver.specs.declared.took.Took.TheVariants.{Held, Again, Outside, Bad, Waiting, Memory}
use Rattle.enet_receiver.specs.Receiver.{Receiver, all_released}

-- the number under which its packet is held, or for which it waits
abbrev pub place_read : Numbering → Receiver → DataCommand → Option ℕ
place_read g r c = if c.reliable then start_read g r.front (piece_of c).start c.number else number_read g r.front c.number

-- what came of its packet
abbrev pub came_at : Receiver → DataCommand → ℕ → Option IncomingPacket
came_at r c place = if c.reliable then get r.held place else get (line_at r.waiting place) c.unreliable

-- the number that names its packet: of a reliable command that of the packet's first piece, of an unreliable one its own
abbrev pub own_place : DataCommand → ℕ
own_place c = if c.reliable then (piece_of c).start else c.number

-- what came of its packet, wherever its own number is; nothing where the number that names the packet is outside the window
abbrev pub came_if : Receiver → DataCommand → Option ℕ → Option IncomingPacket
came_if r c None = None
came_if r c (Some place) = came_at r c place

abbrev pub came_before : Numbering → Receiver → DataCommand → Option IncomingPacket
came_before g r c = came_if r c (number_read g r.front (own_place c))

-- whether it can be a piece of a packet of at most `most` bytes, and has the number of that piece
abbrev pub is_piece : ℕ → DataCommand → Bool
is_piece most c =
    is_sound (place_in_packet c) && nat_le (piece_of c).total most
    && (not c.reliable || c.number == ((piece_of c).start + (piece_of c).number) % 65536)

-- whether it agrees with the earlier pieces
abbrev pub agrees_with : Option IncomingPacket → DataCommand → Bool
agrees_with None c = true
agrees_with (Some e) c = is_none c.fragment || belongs e.making (place_in_packet c)

-- whether a single command's place is taken, or the piece came
abbrev pub came : Option IncomingPacket → DataCommand → Bool
came None c = false
came (Some e) c = is_none c.fragment || is_some (piece_at e.making (piece_of c).number)

-- whether its packet was dispatched, or has fallen behind
abbrev pub is_behind : Receiver → DataCommand → ℕ → Bool
is_behind r c place = place == r.front && (c.reliable || nat_le c.unreliable r.unreliable)

-- whether it is of the packet just past the front, the next that is dispatched
abbrev pub is_next : Receiver → DataCommand → Bool
is_next r c = c.reliable && (piece_of c).start == after r.front 1

abbrev pub outcome_of : Receiver → DataCommand → Bool → ℕ → Option IncomingPacket → Took
outcome_of r c full place earlier =
    if is_behind r c place || came earlier c then Again
    else (if full && is_none earlier then Waiting
    else Held)

abbrev pub outcome_at : Receiver → DataCommand → Bool → Option ℕ → Took
outcome_at r c full None = Outside
outcome_at r c full (Some place) = outcome_of r c full place (came_at r c place)

-- whether it can be a piece of its packet, with the pieces that came
abbrev pub is_piece_of_its_packet : Numbering → ℕ → Receiver → DataCommand → Bool
is_piece_of_its_packet g most r c = is_piece most c && agrees_with (came_before g r c) c

-- the outcome with ample memory, the first that applies. `most` is the greatest packet that is taken in, in bytes, and `full`
-- says that what is held, waits or wasn't taken is at its limit or above
abbrev pub outcome : Numbering → ℕ → Receiver → DataCommand → Bool → Took
outcome g most r c full = if is_piece_of_its_packet g most r c then outcome_at r c full (place_read g r c) else Bad

-- the flags of the packet that a command is of
abbrev pub flags_of : DataCommand → ℕ
flags_of c = if c.reliable then 1 else (if is_some c.fragment then 8 else 0)

abbrev pub earlier_or_new : Option IncomingPacket → DataCommand → IncomingPacket
earlier_or_new None c = record { flags = flags_of c; making = nothing_yet (piece_of c).count (piece_of c).total }
earlier_or_new (Some e) c = e

abbrev pub with_more : IncomingPacket → DataCommand → IncomingPacket
with_more e c = record { flags = e.flags; making = with_piece e.making (place_in_packet c) c.body }

-- its packet has one piece more
abbrev pub with_added : Receiver → DataCommand → ℕ → IncomingPacket → Receiver
with_added r c place e = record r {
  held = if c.reliable then insert r.held place e else r.held;
  waiting = if c.reliable then r.waiting else with_line r.waiting place (insert (line_at r.waiting place) c.unreliable e);
}

-- the piece is added, and what is then due is dispatched
abbrev pub added_at : Numbering → Receiver → DataCommand → Option ℕ → Receiver
added_at g r c None = r
added_at g r c (Some place) = all_released g (with_added r c place (with_more (earlier_or_new (came_at r c place) c) c))

-- all outcomes but Held leave the receiver as it was
abbrev pub received_with : Took → Numbering → Receiver → DataCommand → Receiver
received_with Held g r c = added_at g r c (place_read g r c)
received_with Again g r c = r
received_with Outside g r c = r
received_with Bad g r c = r
received_with Waiting g r c = r
received_with Memory g r c = r

-- the receiver after a command
abbrev pub received : Numbering → ℕ → Receiver → DataCommand → Bool → Receiver
received g most r c full = received_with (outcome g most r c full) g r c

-- whether an outcome lets a command be acknowledged
abbrev pub is_handled : Took → Bool
is_handled Held = true
is_handled Again = true
is_handled Outside = true
is_handled Bad = false
is_handled Waiting = false
is_handled Memory = false

-- whether the command is acknowledged if it asks for it
abbrev pub acknowledged : Numbering → ℕ → Receiver → DataCommand → Bool → Bool
acknowledged g most r c full = is_handled (outcome g most r c full) && acknowledges (r.front % 65536) c.number

-- how many packets it dispatches
abbrev pub dispatch_count : Numbering → ℕ → Receiver → DataCommand → Bool → ℕ
dispatch_count g most r c full = length (received g most r c full).dispatched - length r.dispatched
