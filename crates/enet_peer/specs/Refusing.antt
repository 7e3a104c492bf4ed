-- A host that is full lets a client go that confirms its answer.
use Rattle.std.specs.Prelude.{ℕ, ◌%◌, ◌^◌, ◌&&◌, Bool, true, false, nat_lt, if◌then◌else◌, Option, Some, None, length}
use Rattle.enet_codec.specs.declared.command.Head.{Head}
use Rattle.enet_codec.specs.Message.{Message, Body, acknowledge}
use Rattle.enet_rtt.specs.Clock.{meant_time}
use Rattle.enet_senders.specs.declared.control.Control.TheVariants as control
use Rattle.enet_outbox.specs.Outbox.{is_answer, matched_by, with_control, without_controls}
use Rattle.enet_peer.specs.Calls.{is_answering}
use Rattle.enet_peer.specs.CommandEffect.{Outcome, obeyed}
use Rattle.enet_peer.specs.Peering.{Peering}

-- the word that says that the host is full
abbrev pub full_word : ℕ
full_word = 4294967295

-- nothing of channel 0xFF goes any more but one unsequenced DISCONNECT with that word
abbrev pub told_full : Peering → Peering
told_full p = record p { outbox = with_control (without_controls p.outbox) (control.DisconnectNow full_word) }

-- the client confirmed the answer, which so is acknowledged; the peer is refused
abbrev pub turned_away : Peering → Peering
turned_away p = record (told_full p) { refused = true }

-- whether a peer was refused, and is still there
abbrev pub is_turned_away : Peering → Bool
is_turned_away p = is_answering p.state && p.refused

-- whether a command is the acknowledgement by which the client of a peer confirms its answer
abbrev pub confirms_by : Peering → Head → Body → Bool
confirms_by p h (acknowledge number told) = is_answering p.state && is_answer (matched_by p.outbox h.channel number (meant_time told (p.offset % 2 ^ 16)))
confirms_by p h _ = false

abbrev pub confirms : Peering → Message → Bool
confirms p m = confirms_by p m.head m.body

-- a command comes: a host that is full refuses who confirms
abbrev pub heeded : Bool → Peering → ℕ → Option ℕ → Message → Outcome
heeded full p now sent m = if full && confirms p m then record { stop = None; after = turned_away p } else obeyed p now sent m

-- a peer that was refused is told again, unless that still is to go
abbrev pub told_again : Peering → Peering
told_again p = if nat_lt 0 (length p.outbox.control.queued) then p else told_full p

-- that is so only if the datagram tells a sent time, as each does by which its client asks for an acknowledgement. The word itself tells none:
-- so it isn't answered by a word where the client is a peer that was refused, too
abbrev pub reminded : Option ℕ → Peering → Peering
reminded None p = p
reminded (Some time) p = told_again p
