-- The commands of a packet, by the course that it takes.
use Rattle.std.specs.Prelude.{ℕ, List, map}
use Rattle.std.specs.List.{range_with_len}
use Rattle.enet_fragment.specs.Cutting.{piece_length}
use Rattle.enet_fragment.specs.declared.data.DataCommand.{DataCommand}
use Rattle.enet_sender.specs.declared.course.Course.{Course}
use Rattle.enet_sender.specs.Sender.{piece_of_body}
use Rattle.enet_sender.specs.Course.{command_of}

abbrev pub piece_command : Course → List ℕ → ℕ → DataCommand
piece_command s body i = command_of s i (piece_of_body (piece_length s.mtu) body i)

-- all commands of a body
abbrev pub course_commands : Course → List ℕ → List DataCommand
course_commands s body = map (piece_command s body) (range_with_len 0 s.pieces)
