-- What the peers of the two ends of a connection agree on: which numbers were sent, which were received, and what each number on the wire stands
-- for.
use Rattle.std.specs.Prelude.{◌≡◌, ◌<◌, ◌++◌, ℕ, List, Some, slice_get}
use Rattle.enet_codec.specs.declared.header.Header.{Header}
use Rattle.enet_codec.specs.Message.{Message}
use Rattle.enet_codec.specs.Datagram.{SpellsDatagram}
use Rattle.enet_fragment.specs.DataCommand.{data_of}
use Rattle.enet_peer.specs.Peering.{Peering}
use Rattle.law_connection.specs.Link.{PutOut}
use Rattle.law_connection.specs.LinkSteps.{Has}
use Rattle.law_connection.specs.Connection.{of_channel, in_sequence}
use Rattle.law_connection.specs.Linked.{sends_in, dispatches_in, sender_in, receiver_in}
use Rattle.law_connection.specs.Numbers.{Sending, Receiving, AreAgreed}
use Rattle.enet_host.specs.Host.{named}
use Rattle.law_network.specs.declared.mark.MarkKind.TheVariants.{Data}
use Rattle.law_network.specs.Log.{Logged, packets_at, greatest_at}
use Rattle.law_network.specs.Network.{HostEnd, Site, end_of}

-- a host has an end of connection x, and the peer of that end stands
pub record Stands (s : Site) (x : ℕ) : Type 0 where
  pub end : HostEnd
  pub there : end_of x s.ends ≡ Some end
  pub peer : Peering
  pub is : named s.host.slots end.name ≡ Some peer

-- how such an end sends on a channel, and how it receives
abbrev pub sending_at : ℕ → HostEnd → Peering → Sending
sending_at channel e p = record {
  sends = sends_in p.state;
  sent = (sender_in (slice_get p.outbox.senders channel)).sent;
  greatest = greatest_at e.greatest channel;
  mtu = p.terms.mtu;
  submitted = of_channel p.terms.mtu channel (packets_at e.channels channel).submitted;
}

abbrev pub receiving_at : ℕ → HostEnd → Peering → Receiving
receiving_at channel e p = record {
  dispatches = dispatches_in p.state;
  receiver = record (receiver_in (slice_get p.inbox.receivers channel)) {
    dispatched = in_sequence channel (packets_at e.channels channel).taken ++ in_sequence channel p.inbox.untaken;
  };
}

-- a data command of a channel of connection x, with this mark, is spelled by a datagram that a host put out
pub record IsPutAt (s : Site) (x channel : ℕ) (c : PutOut) : Type 0 where
  pub k : ℕ
  pub datagram : Logged
  pub logged : slice_get s.log k ≡ Some datagram
  pub of : datagram.connection ≡ x
  pub header : Header
  pub messages : List Message
  pub spelled : SpellsDatagram datagram.text header messages
  pub message : Message
  pub among : Has messages message
  pub on : message.head.channel ≡ channel
  pub is : data_of message ≡ Some c.command
  pub marked : Has datagram.marks (record { kind = Data; channel = channel; number = c.command.number; sent_then = c.sent_then })

-- from one host to another, on each channel that has sequenced data, as long as the peers of both ends of connection x stand
abbrev pub AgreeFrom : Site → Site → ℕ → Type 0
AgreeFrom s t x = (from : Stands s x) (to : Stands t x) (channel : ℕ) → channel < 255
    → AreAgreed (sending_at channel from.end from.peer) (IsPutAt s x channel) (receiving_at channel to.end to.peer)

-- both ways
pub record AgreeBetween (s t : Site) (x : ℕ) : Type 0 where
  pub forth : AgreeFrom s t x
  pub back : AgreeFrom t s x
