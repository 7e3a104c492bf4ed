-- One connection between two peers, and all that either has put out.
use Rattle.std.specs.Prelude.{ℕ, Bool, true, false, ◌&&◌, ◌==◌, not, if◌then◌else◌, List, [], ◌∷◌, map, Option}
use Rattle.std.specs.Option.{is_some}
use Rattle.enet_codec.specs.declared.packet.Packet.{Packet}
use Rattle.enet_codec.specs.Message.{Message, Body, acknowledge}
use Rattle.enet_sender.specs.CommandChoice as command_choice
use Rattle.enet_packets.specs.declared.incoming_packet.Dispatched.{Dispatched}
use Rattle.enet_fragment.specs.DataCommand.{data_of}
use Rattle.enet_outbox.specs.Outbox.{is_unsequenced}
use Rattle.enet_peer.specs.declared.parts.PeerEvent.{PeerEvent}
use Rattle.enet_peer.specs.declared.parts.PeerEvent.TheVariants as told
use Rattle.enet_peer.specs.Peering.{Peering}
use Rattle.law_connection.specs.Greatest.{greatest_after}

-- a command that was put out: `sent_then` is the greatest number sent on its channel, just after its datagram, by the end that numbers it;
-- an acknowledgement is numbered by the end that sent its command
pub record Put : Type 0 where
  pub message : Message
  pub sent_then : ℕ

-- one end
pub record End : Type 0 where
  pub peer : Option Peering  -- none until it has the connection
  pub log : List Put  -- all that it put out
  pub submitted : List Packet  -- what its user submitted
  pub events : List PeerEvent  -- what its user took

pub record Connection : Type 0 where
  pub one : End
  pub two : End

-- whether a message is a sequenced data command of a channel
abbrev pub is_data_on : ℕ → Message → Bool
is_data_on channel m = is_some (data_of m) && m.head.channel == channel

-- the greatest number sent on a channel after further messages went
abbrev pub counted : ℕ → ℕ → Message → ℕ
counted channel greatest m = if is_data_on channel m then greatest_after greatest m.head.number else greatest

-- the same after several
unfoldable pub reached : ℕ → ℕ → List Message → ℕ
reached channel greatest [] = greatest
reached channel greatest (m ∷ ms) = reached channel (counted channel greatest m) ms

abbrev pub messages_of : List Put → List Message
messages_of log = map (λ (p : Put). p.message) log

-- the greatest number that an end has sent on a channel
abbrev pub sent_on : ℕ → End → ℕ
sent_on channel e = reached channel 0 (messages_of e.log)

-- whose numbers a command has: an acknowledgement the other end's
abbrev pub is_acknowledgement : Body → Bool
is_acknowledgement (acknowledge number time) = true
is_acknowledgement _ = false

-- a message with how far the end has come that numbers it
abbrev pub put_by : End → End → Message → Put
put_by own other m = record { message = m; sent_then = if is_acknowledgement m.body then sent_on m.head.channel other else sent_on m.head.channel own }

-- the packets of a channel that go in sequence, in datagrams of at most `mtu` bytes
abbrev pub of_channel : ℕ → ℕ → List Packet → List command_choice.Packet
of_channel mtu channel [] = []
of_channel mtu channel (q ∷ qs) =
    if q.channel == channel && not (is_unsequenced mtu (record { flags = q.flags; body = q.body }))
    then (record { flags = q.flags; body = q.body }) ∷ of_channel mtu channel qs
    else of_channel mtu channel qs

-- the packets that events hand out
abbrev pub packets_of : List PeerEvent → List Packet
packets_of [] = []
packets_of (told.Connect info ∷ es) = packets_of es
packets_of (told.Receive q ∷ es) = q ∷ packets_of es
packets_of (told.Disconnect info ∷ es) = packets_of es

-- those of a channel that came in sequence: unsequenced ones have the flags 2
abbrev pub in_sequence : ℕ → List Packet → List Dispatched
in_sequence channel [] = []
in_sequence channel (q ∷ qs) =
    if q.channel == channel && not (q.flags == 2)
    then (record { flags = q.flags; body = q.body }) ∷ in_sequence channel qs
    else in_sequence channel qs
