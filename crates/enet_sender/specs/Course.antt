-- The commands of a packet, by the course that it takes.
use Rattle.std.specs.Prelude.{◌≡◌, ℕ, ◌+◌, ◌*◌, ◌<◌, ◌≤◌, false, nat_lt, if◌then◌else◌, List, length, Some, None}
use Rattle.enet_seq.specs.Windows.{after}
use Rattle.enet_fragment.specs.Cutting.{piece_length}
use Rattle.enet_fragment.specs.declared.data.DataCommand.{DataCommand}
use Rattle.enet_codec.specs.declared.command.Fragment.{Fragment}
use Rattle.enet_sender.specs.declared.course.Course.{Course}
use Rattle.enet_sender.specs.CommandChoice.{ChosenPacket, carried_as}

-- the number by which the pieces of the packet find one another
abbrev pub start_of : Course → ℕ
start_of s = if s.reliable then after s.number 1 else s.unreliable + 1

abbrev pub fragment_of : Course → ℕ → Fragment
fragment_of s i = record { start = start_of s; count = s.pieces; number = i; total = s.total; offset = i * piece_length s.mtu }

-- command i, with its body
abbrev pub command_of : Course → ℕ → List ℕ → DataCommand
command_of s i body = record {
  reliable = s.reliable;
  number = if s.reliable then after s.number (i + 1) else s.number;
  unreliable = if s.reliable then 0 else s.unreliable + 1;
  fragment = if nat_lt (piece_length s.mtu) s.total then Some (fragment_of s i) else None;
  body = body;
}

-- the course of a packet, the last reliable number and the unreliable number before it being given
abbrev pub course_of : ℕ → ℕ → ℕ → ChosenPacket → Course
course_of mtu number unreliable c = record {
  reliable = c.reliable;
  number = number;
  unreliable = unreliable;
  pieces = c.pieces;
  total = length c.packet.body;
  mtu = mtu;
}

-- the course that a packet is given
abbrev pub packet_course : ℕ → ℕ → ℕ → ℕ → List ℕ → Course
packet_course mtu number unreliable flags body = course_of mtu number unreliable (carried_as mtu unreliable (record { flags = flags; body = body }))

-- its numbers and lengths are within their limits
pub record IsCourse (s : Course) : Type 0 where
  pub low : 576 ≤ s.mtu
  pub high : s.mtu ≤ 4096
  pub some_piece : 1 ≤ s.pieces
  pub few_pieces : s.pieces ≤ 16384
  pub unreliable : s.reliable ≡ false → s.unreliable < 65535
