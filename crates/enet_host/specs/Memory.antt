-- How many bytes a host holds, and how many at most: for what others sent, and for what is queued or unacknowledged. What one of each kind
-- takes is at least what the allocator gave for it, as scripts/check/check-memory.sh counts it. Lists keep the room that they had, which
-- counts only as far as the bound has it for what others sent: of commands until none is queued or unacknowledged, and of unsequenced
-- packets (up to 160 bytes each) until none waits.
use Rattle.std.specs.Prelude.{ℕ, ◌+◌, ◌*◌, ◌==◌, ◌&&◌, Bool, false, not, if◌then◌else◌, Option, Some, None, List, [], ◌∷◌, length, map, sum_by}
use Rattle.enet_codec.specs.declared.command.Fragment.{Fragment}
use Rattle.enet_codec.specs.declared.config.Config.{Config}
use Rattle.enet_fragment.specs.declared.data.DataCommand.{DataCommand}
use Rattle.enet_sender.specs.declared.sent.Sent.{Sent}
use Rattle.enet_sender.specs.Due.{SendingEnd}
use Rattle.enet_outbox.specs.declared.parts.Unsequenced.{Unsequenced}
use Rattle.enet_outbox.specs.Outbox.{Outbox}
use Rattle.enet_peer.specs.declared.held.Held.{Held}
use Rattle.enet_peer.specs.Peering.{Peering}
use Rattle.enet_slot.specs.Slot.{SlotState}
use Rattle.enet_host.specs.Host.{Host}
use Rattle.enet_host.specs.Held.{held_by, most_held}

-- ---- what one takes, in bytes

-- the host beside its slots
abbrev pub host_takes : ℕ
host_takes = 4096

-- a slot, free or not: its peer's numbers, the marks of 1,024 unsequenced groups, the lists of channel 0xFF, its part in the host's lists,
-- and the room for 64 commands and for 8 unsequenced packets that it keeps where there are none
abbrev pub slot_takes : ℕ
slot_takes = 9216

-- a channel on which packets come: its receiver, the marks of eight blocks of numbers that are held, and room to dispatch 64 packets
abbrev pub channel_takes : ℕ
channel_takes = 9216

-- a channel on which others are sent to, with its lists of numbers, which keep room for 64 each
abbrev pub sender_takes : ℕ
sender_takes = 672

-- a packet that came: its place among those that the user can take, and the frame of its body
abbrev pub packet_takes : ℕ
packet_takes = 192

-- one that wasn't dispatched, beside that: its place in a line of its own, the marks of 16,384 pieces, and room to dispatch it
abbrev pub undispatched_takes : ℕ
undispatched_takes = 2816

-- a byte of a packet that came: while pieces of its packet are missing, the room for those that came in order may be twice what is in it
abbrev pub byte_takes : ℕ
byte_takes = 2

-- an acknowledgement that waits
abbrev pub acknowledgement_takes : ℕ
acknowledgement_takes = 16

-- a command that is queued or unacknowledged: its place among all, its number in a list of its channel, and the frame of its body
abbrev pub command_takes : ℕ
command_takes = 384

-- ---- what there is

abbrev pub memory_of_held : Held → ℕ
memory_of_held h =
    h.channels * channel_takes + h.senders * sender_takes
    + h.packets * packet_takes + h.undispatched * undispatched_takes + h.bytes * byte_takes
    + h.acknowledgements * acknowledgement_takes

-- What this end brought about itself: the channels of its peers, which it granted or asked for, and what is queued or unacknowledged, which
-- its user submitted but for the commands of channel 0xFF.
pub record Own : Type 0 where
  pub channels : ℕ
  pub senders : ℕ
  pub commands : ℕ
  pub bytes : ℕ

abbrev pub memory_of_own : Own → ℕ
memory_of_own own = own.commands * command_takes + own.bytes

-- a host with so many slots whose peers hold this
abbrev pub memory_with : ℕ → Held → ℕ
memory_with slots held = host_takes + slots * slot_takes + memory_of_held held

-- a packet that is cut has its memory until the last of its pieces has gone, and counts whole with the first of each run of its pieces
abbrev pub packet_length : DataCommand → Option Fragment → ℕ
packet_length c None = length c.body
packet_length c (Some f) = f.total

abbrev pub have_one_start : Option Fragment → Option Fragment → Bool
have_one_start (Some f) (Some g) = f.start == g.start
have_one_start _ _ = false

abbrev pub is_one_packet : Option DataCommand → DataCommand → Bool
is_one_packet None c = false
is_one_packet (Some b) c = (if b.reliable then c.reliable else not c.reliable) && have_one_start b.fragment c.fragment

abbrev pub bytes_after : Option DataCommand → List DataCommand → ℕ
bytes_after last [] = 0
bytes_after last (c ∷ commands) = (if is_one_packet last c then 0 else packet_length c c.fragment) + bytes_after (Some c) commands

abbrev pub sending_bytes : SendingEnd → ℕ
sending_bytes e = bytes_after None e.sender.queued + bytes_after None (map (λ (p : Sent). p.command) e.sender.sent)

abbrev pub sending_commands : SendingEnd → ℕ
sending_commands e = length e.sender.queued + length e.sender.sent

-- what a peer has queued or unacknowledged
abbrev pub commands_of : Outbox → ℕ
commands_of o = sum_by sending_commands o.senders + length o.unsequenced + length o.control.queued + length o.control.sent

abbrev pub bytes_of : Outbox → ℕ
bytes_of o = sum_by sending_bytes o.senders + sum_by (λ (u : Unsequenced). length u.body) o.unsequenced

abbrev pub commands_in : Option Peering → ℕ
commands_in None = 0
commands_in (Some p) = commands_of p.outbox

abbrev pub bytes_in : Option Peering → ℕ
bytes_in None = 0
bytes_in (Some p) = bytes_of p.outbox

abbrev pub own_in : List SlotState → Own
own_in slots = record {
  channels = (held_by slots).channels;
  senders = (held_by slots).senders;
  commands = sum_by (λ (s : SlotState). commands_in s.peer) slots;
  bytes = sum_by (λ (s : SlotState). bytes_in s.peer) slots;
}

-- ---- how much that is, and at most

abbrev pub memory_of : Host → ℕ
memory_of h = memory_with (length h.slots) (held_by h.slots) + memory_of_own (own_in h.slots)

abbrev pub memory_bound : Config → Own → ℕ
memory_bound c own = memory_with c.peers (record (most_held c) { channels = own.channels; senders = own.senders }) + memory_of_own own
