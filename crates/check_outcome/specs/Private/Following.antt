-- When what a user took of a channel follows what the other user submitted on it.
use Rattle.std.specs.Prelude.{ℕ, ◌&&◌, ◌==◌, not, Bool}
use Rattle.enet_codec.specs.declared.packet.Packet.{Packet}
use Rattle.enet_sender.specs.CommandChoice as command_choice
use Rattle.enet_outbox.specs.Outbox.{is_unsequenced}

-- a submitted packet, as the choice of its commands sees it
abbrev pub submission : Packet → command_choice.Packet
submission q = record { flags = q.flags; body = q.body }

-- a packet was submitted on a channel and goes in sequence
abbrev pub goes_in_sequence : ℕ → ℕ → Packet → Bool
goes_in_sequence mtu channel q = q.channel == channel && not (is_unsequenced mtu (submission q))

-- a packet was taken of a channel and came in sequence
abbrev pub came_in_sequence : ℕ → Packet → Bool
came_in_sequence channel q = q.channel == channel && not (q.flags == 2)
