-- A sequenced data command: how it goes over the wire, and which piece of its packet it is.
use Rattle.std.specs.Prelude.{◌≡◌, ℕ, Bool, true, false, Option, Some, None, List, length}
use Rattle.std.specs.Option.{ForSome}
use Rattle.enet_codec.specs.Message.{Message, Body, send_reliable, send_unreliable, send_fragment, send_unreliable_fragment}
use Rattle.enet_codec.specs.declared.command.Fragment.{Fragment}
use Rattle.enet_codec.specs.declared.command.Head.{Head}
use Rattle.enet_fragment.specs.declared.data.DataCommand.{DataCommand}
use Rattle.enet_fragment.specs.declared.place.Place.{Place}
use Rattle.enet_fragment.specs.Place.{place_of}

-- what the command says after its head
abbrev pub wire_body : Bool → Option Fragment → ℕ → List ℕ → Body
wire_body true None unreliable body = send_reliable body
wire_body true (Some f) unreliable body = send_fragment f body
wire_body false None unreliable body = send_unreliable unreliable body
wire_body false (Some f) unreliable body = send_unreliable_fragment f body

-- the command on the wire; a reliable one asks for an acknowledgement
abbrev pub message_of : ℕ → DataCommand → Message
message_of channel c = record {
  head = record { acknowledge = c.reliable; unsequenced = false; channel = channel; number = c.number };
  body = wire_body c.reliable c.fragment c.unreliable c.body;
}

-- a command as it is read. The unreliable number of an unreliable fragment is its start number
abbrev pub read_of : Head → Body → Option DataCommand
read_of h (send_reliable p) = Some (record { reliable = true; number = h.number; unreliable = 0; fragment = None; body = p })
read_of h (send_unreliable n p) = Some (record { reliable = false; number = h.number; unreliable = n; fragment = None; body = p })
read_of h (send_fragment f p) = Some (record { reliable = true; number = h.number; unreliable = 0; fragment = Some f; body = p })
read_of h (send_unreliable_fragment f p) = Some (record { reliable = false; number = h.number; unreliable = f.start; fragment = Some f; body = p })
read_of h _ = None

-- the sequenced data command that a message is, if it is one
abbrev pub data_of : Message → Option DataCommand
data_of m = read_of m.head m.body

-- a command as a sender makes it: a reliable one has no unreliable number, and that of an unreliable fragment is its start number
pub record IsWellFormed (c : DataCommand) : Type 0 where
  pub reliable : c.reliable ≡ true → c.unreliable ≡ 0
  pub start : c.reliable ≡ false → ForSome c.fragment (λ f. f.start ≡ c.unreliable)

-- such a command is read as it was written, on whatever channel
abbrev pub IsReadAsWritten : DataCommand → Type 0
IsReadAsWritten c = IsWellFormed c → (channel : ℕ) → data_of (message_of channel c) ≡ Some c

-- a single command is the only piece of its packet
abbrev pub only_piece : ℕ → List ℕ → Fragment
only_piece start body = record { start = start; count = 1; number = 0; total = length body; offset = 0 }

abbrev pub piece_or_only : Option Fragment → ℕ → List ℕ → Fragment
piece_or_only None start body = only_piece start body
piece_or_only (Some f) start body = f

-- which piece of its packet the command is
abbrev pub piece_of : DataCommand → Fragment
piece_of c = piece_or_only c.fragment c.number c.body

abbrev pub fragment_place : Fragment → List ℕ → Place
fragment_place f body = place_of f.number f.count f.total f.offset body

-- the place of that piece
abbrev pub place_in_packet : DataCommand → Place
place_in_packet c = fragment_place (piece_of c) c.body
