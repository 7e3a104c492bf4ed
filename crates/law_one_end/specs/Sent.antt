-- What an end puts out is of what its user submitted.
use Rattle.std.specs.Prelude.{◌≡◌, ℕ, ◌%◌, List, Some}
use Rattle.enet_codec.specs.declared.command.Verify.{Verify}
use Rattle.enet_codec.specs.declared.packet.Packet.{Packet}
use Rattle.enet_codec.specs.Message.{Message, send_unsequenced, verify_connect}
use Rattle.enet_fragment.specs.declared.data.DataCommand.{DataCommand}
use Rattle.enet_fragment.specs.DataCommand.{data_of}
use Rattle.enet_receiver.specs.Members.{Has}
use Rattle.enet_sender.specs.CommandChoice.{ChosenPacket, carried}
use Rattle.law_connection.specs.Connection.{of_channel}
use Rattle.law_connection.specs.Link.{wired}
use Rattle.law_connection.specs.Meant.{IsPieceOf}
use Rattle.law_one_end.specs.OneEnd.{OneEnd}

-- a command is one of these packets', numbered as they stand in the list
pub record IsMeant (mtu : ℕ) (cs : List ChosenPacket) (c : DataCommand) : Type 0 where
  pub meant : DataCommand
  pub piece : IsPieceOf mtu cs meant
  pub on_the_wire : c ≡ wired meant

-- one of these packets is of this channel, has these bytes and is flagged UNSEQUENCED (2) and not RELIABLE (1)
abbrev pub HasLoose : List Packet → ℕ → List ℕ → Type 0
HasLoose qs channel body = (q : Packet) × Has qs q × (q.channel ≡ channel) × (q.body ≡ body) × (q.flags % 4 ≡ 2)

pub record IsSent (e : OneEnd) : Type 0 where
  -- each sequenced data command that was put out is one of the packets' that were submitted on its channel
  pub meant : (m : Message) (c : DataCommand) → Has e.put m → data_of m ≡ Some c → IsMeant e.peer.terms.mtu (carried e.peer.terms.mtu (of_channel e.peer.terms.mtu m.head.channel e.submitted)) c
  -- and what was put out unsequenced was submitted to go so
  pub loose : (m : Message) (group : ℕ) (body : List ℕ) → Has e.put m → m.body ≡ send_unsequenced group body → HasLoose e.submitted m.head.channel body

-- a server's answer that was put out tells its client this slot, to which the client sends from then on
abbrev pub TellsSlot : ℕ → OneEnd → Type 0
TellsSlot slot e = (m : Message) (v : Verify) → Has e.put m → m.body ≡ verify_connect v → v.outgoing_peer ≡ slot
