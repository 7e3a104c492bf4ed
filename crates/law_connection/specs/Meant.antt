-- What was meant: the packets and commands of a list of what was submitted.
use Rattle.std.specs.Prelude.{◌≡◌, ℕ, Bool, true, false, ◌+◌, ◌<◌, ◌⊎◌, List, ◌∷◌, ◌++◌, length, Some, None, is_some, if◌then◌else◌}
use Rattle.enet_seq.specs.Numbering.{unbounded}
use Rattle.enet_fragment.specs.Cutting.{piece_length}
use Rattle.enet_fragment.specs.PartialPacket.{PartialPacket, count_of, piece_at}
use Rattle.enet_fragment.specs.declared.data.DataCommand.{DataCommand}
use Rattle.enet_fragment.specs.DataCommand.{data_of, message_of}
use Rattle.enet_receiver.specs.Receiver.{Receiver}
use Rattle.enet_receiver.specs.DataOutcome.{place_read, came_at, came_before}
use Rattle.enet_sender.specs.CommandChoice.{ChosenPacket, is_long}
use Rattle.enet_sender.specs.Sender.{command_at, piece_of_body}
use Rattle.law_connection.specs.Follows.{command_count, count_after}
use Rattle.law_connection.specs.Link.{wired}

-- the packet c stands behind so many reliable commands, and so many unreliable packets since the last reliable one
pub record Stands (cs : List ChosenPacket) (number count : ℕ) (c : ChosenPacket) : Type 0 where
  pub before : List ChosenPacket
  pub behind : List ChosenPacket
  pub whole : cs ≡ before ++ c ∷ behind
  pub number_is : command_count before ≡ number
  pub count_is : count_after 0 before ≡ count

-- whether the piece of this number has come
abbrev pub has_piece : PartialPacket → ℕ → Bool
has_piece m i = is_some (piece_at m i)

-- the pieces that came are pieces of the packet
pub record Matches (mtu : ℕ) (m : PartialPacket) (c : ChosenPacket) : Type 0 where
  pub count : count_of m ≡ c.pieces
  pub pieces : (i : ℕ) (bytes : List ℕ) → piece_at m i ≡ Some bytes → (i < c.pieces) × (bytes ≡ piece_of_body (piece_length mtu) c.packet.body i)
  -- they told its length, and where it is cut how long each piece is
  pub total : m.total ≡ length c.packet.body
  pub cut : is_long mtu c.packet ≡ true → (size : ℕ) → m.cut ≡ Some size → size ≡ piece_length mtu

-- a packet on its way is a reliable one of the list, of which this is the number of the first piece
pub record OfReliable (mtu : ℕ) (cs : List ChosenPacket) (start : ℕ) (m : PartialPacket) : Type 0 where
  pub packet : ChosenPacket
  pub number : ℕ
  pub count : ℕ
  pub place : start ≡ number + 1
  pub stands : Stands cs number count packet
  pub reliable : packet.reliable ≡ true
  pub matches : Matches mtu m packet
  pub begun : (i : ℕ) × (has_piece m i ≡ true)

-- or an unreliable one of these numbers
pub record OfUnreliable (mtu : ℕ) (cs : List ChosenPacket) (number unreliable : ℕ) (m : PartialPacket) : Type 0 where
  pub packet : ChosenPacket
  pub count : ℕ
  pub place : unreliable ≡ count + 1
  pub stands : Stands cs number count packet
  pub reliable : packet.reliable ≡ false
  pub matches : Matches mtu m packet

-- a packet that isn't long goes in one command
abbrev pub IsPlain : ℕ → ChosenPacket → Type 0
IsPlain mtu c = is_long mtu c.packet ≡ false → c.pieces ≡ 1

-- a command of a packet of the list
pub record IsPieceOf (mtu : ℕ) (cs : List ChosenPacket) (d : DataCommand) : Type 0 where
  pub packet : ChosenPacket
  pub number : ℕ
  pub count : ℕ
  pub index : ℕ
  pub stands : Stands cs number count packet
  pub inside : index < packet.pieces
  pub plain : IsPlain mtu packet
  pub command : d ≡ command_at unbounded mtu (record { number = number; unreliable = count }) packet index

-- the place of the packet of a command of the list
abbrev pub place_meant : {mtu : ℕ} {cs : List ChosenPacket} {d : DataCommand} → IsPieceOf mtu cs d → ℕ
place_meant piece = if piece.packet.reliable then piece.number + 1 else piece.number

-- a command on the wire was meant as one of the list: its place is read as that of its packet, or as nothing, and it is compared
-- with what came of its packet, or with nothing
pub record IsReadAsMeant (mtu : ℕ) (cs : List ChosenPacket) (r : Receiver) (c : DataCommand) : Type 0 where
  pub meant : DataCommand
  pub piece : IsPieceOf mtu cs meant
  pub command : c ≡ wired meant
  pub read : (place_read unbounded r c ≡ None) ⊎ (place_read unbounded r c ≡ Some (place_meant piece))
  pub compared : (came_before unbounded r c ≡ None) ⊎ (came_before unbounded r c ≡ came_at r c (place_meant piece))

-- a command is read as itself where it comes, on every channel
abbrev pub IsReadAsItself : DataCommand → Type 0
IsReadAsItself c = (channel : ℕ) → data_of (message_of channel c) ≡ Some c
