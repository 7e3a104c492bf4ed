-- A command whose packet is dispatched as it comes, since nothing is there that would go with it.
use Rattle.std.specs.Prelude.{◌≡◌, ◌<◌, ◌≤◌, ℕ, Bool, true, false, if◌then◌else◌, length, None}
use Rattle.std.specs.FinMap.{get}
use Rattle.enet_codec.specs.declared.packet.Packet.{Packet}
use Rattle.enet_seq.specs.Windows.{after}
use Rattle.enet_fragment.specs.declared.data.DataCommand.{DataCommand}
use Rattle.enet_receiver.specs.Receiver.{Receiver, next_whole}
use Rattle.enet_receiver.specs.Invariant.{Keeps}
use Rattle.enet_receiver.specs.DataOutcome.{is_behind, flags_of}
use Rattle.enet_receiver.specs.Foresight.{ReceivingEnd}

-- nothing goes with a packet that is dispatched as it comes: none is held whole under the number past its own, and nothing waits for
-- its own; of a reliable one, nothing is held under its own either, and nothing waits for the front that it passes
pub record GoesAlone (r : Receiver) (reliable : Bool) (number : ℕ) : Type 0 where
  pub next_not_whole : next_whole (get r.held (after number 1)) ≡ None
  pub none_waits : get r.waiting number ≡ None
  pub not_held : reliable ≡ true → get r.held number ≡ None
  pub none_passed : reliable ≡ true → get r.waiting r.front ≡ None

-- a command that is its whole packet, with which nothing goes: the next reliable one in order, or an unreliable one that goes with
-- the front
pub record ComesAlone (r : Receiver) (c : DataCommand) : Type 0 where
  pub single : c.fragment ≡ None
  pub at : c.number ≡ (if c.reliable then after r.front 1 else r.front)
  pub alone : GoesAlone r c.reliable c.number

-- such a command that is short enough and hasn't fallen behind, where the number has 16 bits and the receiver keeps what it keeps
pub record GoesAtOnce (most : ℕ) (r : Receiver) (c : DataCommand) : Type 0 where
  pub alone : ComesAlone r c
  pub short : length c.body ≤ most
  pub not_behind : is_behind r c c.number ≡ false
  pub kept : Keeps most r
  pub number : c.number < 65536

-- the receiver once the packet of such a command is handed out
abbrev pub with_moved : ReceivingEnd → DataCommand → ReceivingEnd
with_moved e c = record e { receiver = record e.receiver { front = c.number; unreliable = if c.reliable then 0 else c.unreliable } }

-- as this packet
abbrev pub only_packet_from : ℕ → DataCommand → Packet
only_packet_from channel c = record { channel = channel; flags = flags_of c; body = c.body }
