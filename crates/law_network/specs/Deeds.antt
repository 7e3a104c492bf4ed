-- What one peer alone is asked, one thing after another, and what it answers.
use Rattle.std.specs.Prelude.{◌≡◌, ℕ, Bool, true, List, [], ◌∷◌, length, Option, Some, None, Result, Ok, Err}
use Rattle.enet_codec.specs.declared.packet.Packet.{Packet}
use Rattle.enet_codec.specs.declared.refusal.Refusal.{Refusal}
use Rattle.enet_codec.specs.declared.stop.Stop.{Stop}
use Rattle.enet_codec.specs.Message.{Message}
use Rattle.enet_sender.specs.CommandChoice as command_choice
use Rattle.enet_outbox.specs.declared.parts.SendLimit.{SendLimit}
use Rattle.enet_outbox.specs.Emission.{filled, datagram}
use Rattle.enet_outbox.specs.Outstanding.{is_full}
use Rattle.enet_peer.specs.declared.parts.PeerEvent.{PeerEvent}
use Rattle.enet_peer.specs.Peering.{Peering}
use Rattle.enet_peer.specs.CommandEffect.{Obeys, wants_memory}
use Rattle.enet_peer.specs.Endings.{freed}
use Rattle.enet_peer.specs.Handling.{Arrival}
use Rattle.enet_peer.specs.Refusing.{heeded, is_turned_away, told_again}
use Rattle.enet_peer.specs.Calls.{Refuses, Leaves, Takes, pace_of, destination_of, gone_on, is_answering, left, moved, next_event, submission_refusal, submitted, with_bandwidth, with_throttle_limit}
use Rattle.enet_slot.specs.Calls.{Does, DoesWithMemory, or_else_full, throttling, pinging, waiting}
use Rattle.enet_slot.specs.Sharing.{wants_room_in}
use Rattle.law_connection.specs.Steps.{Way, leave_by, Setting}
use Rattle.law_connection.specs.Steps as setting
use Rattle.law_network.specs.Calls.{Done, IsWanted}

-- what a peer is asked, with what it answers, also where it refuses or where memory is wanting
pub data Deed : Type 0 where
  -- a packet is submitted, where this limits what the peer may have queued or unacknowledged; a refusal hands its body back
  Submit : (packet : Packet) (limit : Option SendLimit) (answer : Result (Unit {0}) (Refusal × List ℕ)) → Deed
  Emit : (now : ℕ) (given : Option (List ℕ)) → Deed  -- the peer is asked for a datagram and puts out these bytes, or nothing
  Come : (a : Arrival) (message : Message) (answer : Result (Unit {0}) Stop) → Deed  -- a command comes, and may stop its datagram
  Tick : (now : ℕ) (short : Bool) → Deed  -- time has come to now, where the other end's address may have sent too little for another answer
  Take : (given : Option PeerEvent) → Deed  -- the peer is asked for its next event
  Disconnect : (way : Way) (info : ℕ) (answer : Done) → Deed  -- the user ends the connection
  Set : (setting : Setting) (answer : Done) → Deed
  GiveWay : Deed  -- it waits for its client, and is let go, since its host gives its slot to another
  TellAgain : Deed  -- it was refused, and is told so again, since a datagram came that tells a sent time

-- what is left of a peer that was asked for a datagram
abbrev pub emitted : Peering → ℕ → Peering
emitted p now = gone_on (record p { outbox = (filled (pace_of p now) p.outbox).outbox })

-- the datagram that it puts out: nothing where no command goes
abbrev pub bytes_of : Peering → ℕ → List Message → Option (List ℕ)
bytes_of p now [] = None
bytes_of p now (m ∷ ms) = Some (datagram now (destination_of p) (m ∷ ms))

abbrev pub put_out : Peering → ℕ → Option (List ℕ)
put_out p now = bytes_of p now (filled (pace_of p now) p.outbox).messages

-- the first refusal but want of memory that it meets: by the peer and the limit alone
abbrev pub refusal_of : Option SendLimit → Peering → ℕ → command_choice.Packet → Option Refusal
refusal_of limit p channel q = or_else_full (is_full limit p.outbox) (submission_refusal p channel (length q.body))

-- a packet is submitted, or refused: then nothing changes, and the body is handed back
abbrev pub Submits : Option SendLimit → Result (Unit {0}) (Refusal × List ℕ) → Peering → Peering → ℕ → command_choice.Packet → Type 0
Submits limit (Ok done) old new channel q = (refusal_of limit old channel q ≡ None) × (new ≡ submitted old channel q)
Submits limit (Err e) old new channel q = (e.1 ≡ q.body) × (new ≡ old) × Refuses e.0 (refusal_of limit old channel q)

-- something of which the other end is told is set, or refused: memory may be wanted where the peer is connected and has an earlier
-- command of channel 0xFF queued or unacknowledged
abbrev pub SetsAndTells : Done → Result Peering Refusal → Peering → Peering → Type 0
SetsAndTells answer outcome old new = DoesWithMemory answer outcome old new × IsWanted answer (wants_room_in (Some old))

-- something is set, or refused: by the peer's state the throttle's numbers alone, for want of memory what the other end is told
abbrev pub Sets : Setting → Done → Peering → Peering → Type 0
Sets (setting.Bandwidth incoming outgoing) answer old new = SetsAndTells answer (Ok (with_bandwidth old incoming outgoing)) old new
Sets (setting.Throttle interval acceleration deceleration) answer old new = SetsAndTells answer (throttling interval acceleration deceleration old) old new
Sets (setting.ThrottleLimit limit) answer old new = Does {S = Peering} answer (Ok (with_throttle_limit old limit)) old new
Sets (setting.PingInterval ms) answer old new = Does answer (pinging ms old) old new
Sets (setting.Timeout limit minimum maximum) answer old new = Does answer (waiting limit minimum maximum old) old new

-- one peer alone does this, by the relations that the contracts of its calls name. A submission that they carry out is refused where the
-- peer is at the limit. An emission is what these relations make of the peer and of the front of its buffer. A setting leaves what they
-- name too, or is refused as a host refuses it: what a peer's own call requires, that it is connected and has room for a command, is here
-- why it is refused
abbrev pub Alone : Deed → Peering → Peering → Type 0
Alone (Submit q limit answer) old new = Submits limit answer old new q.channel (record { flags = q.flags; body = q.body })
Alone (Emit now given) old new = (given ≡ put_out old now) × (new ≡ emitted old now)
Alone (Come a m answer) old new = Obeys answer (wants_memory old a.now a.sent m) (heeded a.full old a.now a.sent m) old new
Alone (Tick now short) old new = new ≡ moved short old now
Alone (Take given) old new = Takes given (next_event old) old new
Alone (Disconnect way info answer) old new = Leaves answer (left (leave_by way old.state) old info) old new
Alone (Set setting answer) old new = Sets setting answer old new
Alone GiveWay old new = (is_answering old.state ≡ true) × (new ≡ freed old)
Alone TellAgain old new = (is_turned_away old ≡ true) × (new ≡ told_again old)

-- one peer alone does all these, in order
abbrev pub AllAlone : List Deed → Peering → Peering → Type 0
AllAlone [] old new = old ≡ new
AllAlone (d ∷ ds) old new = (next : Peering) × Alone d old next × AllAlone ds next new
