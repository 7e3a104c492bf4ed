-- What a client keeps that keeps the rules of the wire, on one channel.
use Rattle.std.specs.Prelude.{◌≡◌, ℕ, ◌+◌, ◌-◌, ◌*◌, ◌<◌, ◌≤◌, List, length}
use Rattle.enet_fragment.specs.Cutting.{piece_length}
use Rattle.enet_fragment.specs.declared.data.DataCommand.{DataCommand}
use Rattle.enet_receiver.specs.Members.{Has}
use Rattle.enet_sender.specs.CommandChoice.{ChosenPacket}
use Rattle.law_connection.specs.Link.{wired}
use Rattle.law_connection.specs.Meant.{IsPieceOf}
use Rattle.law_one_end.specs.OneEnd.{Heard}

-- a packet goes in 1 to 16,384 commands, in pieces for datagrams of at most `mtu` bytes: enough to cover it, and no more
pub record IsEven (mtu : ℕ) (c : ChosenPacket) : Type 0 where
  pub some_piece : 0 < c.pieces
  pub few : c.pieces ≤ 16384
  pub covered : length c.packet.body ≤ c.pieces * piece_length mtu
  pub tight : (c.pieces - 1) * piece_length mtu ≤ length c.packet.body

-- a command that came is one of these packets', numbered as they stand in the list, and comes when the receiver stands at most 32,768
-- numbers past it, and at most 65,535 before it
pub record IsInReach (mtu : ℕ) (cs : List ChosenPacket) (h : Heard) : Type 0 where
  pub meant : DataCommand
  pub piece : IsPieceOf mtu cs meant
  pub on_the_wire : h.command ≡ wired meant
  pub not_late : h.front ≤ meant.number + 32768
  pub not_early : meant.number ≤ h.front + 65535

-- a client whose packets on a channel are these, in this order, each reliable or not
pub record KeepsRules (mtu : ℕ) (cs : List ChosenPacket) (channel : ℕ) (came : List Heard) : Type 0 where
  pub even : (c : ChosenPacket) → Has cs c → IsEven mtu c
  pub sent : (h : Heard) → Has came h → h.channel ≡ channel → IsInReach mtu cs h
