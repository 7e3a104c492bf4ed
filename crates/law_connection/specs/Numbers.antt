-- What two ends of a connection agree on: which numbers were sent, which were received, and what each number on the wire stands for.
use Rattle.std.specs.Prelude.{◌≡◌, ℕ, Bool, true, false, ◌+◌, ◌%◌, ◌<◌, ◌≤◌, ◌⊎◌, List, length, map, Option, Some, None, slice_get}
use Rattle.std.specs.FinMap.{get}
use Rattle.enet_fragment.specs.DataCommand.{data_of}
use Rattle.enet_packets.specs.declared.incoming_packet.IncomingPacket.{IncomingPacket}
use Rattle.enet_packets.specs.Packets.{line_at}
use Rattle.enet_receiver.specs.Receiver.{Receiver, nothing_received}
use Rattle.enet_sender.specs.CommandChoice.{ChosenPacket, carried}
use Rattle.enet_sender.specs.CommandChoice as command_choice
use Rattle.enet_sender.specs.Sender.{Sender, nothing_sent}
use Rattle.enet_sender.specs.declared.sent.Sent.{Sent}
use Rattle.enet_peer.specs.Peering.{Peering}
use Rattle.law_connection.specs.Image.{ShowsReceiver}
use Rattle.law_connection.specs.Keeps.{IsReceived}
use Rattle.law_connection.specs.Link.{PutOut, is_late, number_below}
use Rattle.law_connection.specs.Meant.{OfReliable, OfUnreliable, IsReadAsMeant}
use Rattle.law_connection.specs.LinkSteps.{Has}
use Rattle.law_connection.specs.Connection.{Put, End, Connection, sent_on, of_channel}
use Rattle.law_connection.specs.Law.{mtu_of}
use Rattle.law_connection.specs.Linked.{sends_in, dispatches_in, sender_in, receiver_in, dispatched_on}

-- whether an end still sends data, and whether it still dispatches; one that has no peer yet has sent and received nothing
abbrev pub is_sending : Option Peering → Bool
is_sending None = true
is_sending (Some p) = sends_in p.state

abbrev pub is_dispatching : Option Peering → Bool
is_dispatching None = true
is_dispatching (Some p) = dispatches_in p.state

-- an end's sender and receiver of a channel; the receiver with all that it ever dispatched, taken or not
abbrev pub sender_on : ℕ → Option Peering → Sender
sender_on channel None = nothing_sent
sender_on channel (Some p) = sender_in (slice_get p.outbox.senders channel)

abbrev pub receiver_on : ℕ → End → Option Peering → Receiver
receiver_on channel e None = nothing_received
receiver_on channel e (Some p) = record (receiver_in (slice_get p.inbox.receivers channel)) { dispatched = dispatched_on channel e p }

-- how an end sends on a channel
pub record Sending : Type 0 where
  pub sends : Bool  -- whether it still sends data
  pub sent : List Sent  -- what waits there for its acknowledgement
  pub greatest : ℕ  -- the greatest number sent
  pub mtu : ℕ  -- the greatest length of its datagrams, in bytes
  pub submitted : List command_choice.Packet  -- what its user submitted, unsequenced packets apart

-- how an end receives on a channel
pub record Receiving : Type 0 where
  pub dispatches : Bool  -- whether it still dispatches
  pub receiver : Receiver  -- with all that it ever dispatched, taken or not

-- how the packets go that were submitted
abbrev pub carried_by : Sending → List ChosenPacket
carried_by from = carried from.mtu from.submitted

-- the end `from`, which put these commands out, and the end `to` agree on a channel. There is a receiver of unbounded numbers, and there
-- are unbounded numbers that wait for their acknowledgements, such that
pub record AreAgreed (from : Sending) (IsPut : PutOut → Type 0) (to : Receiving) : Type 0 where
  pub receiver : Receiver
  pub waiting : List ℕ
  -- while the receiving end dispatches, its receiver is how that one is kept with wire numbers
  pub shows : to.dispatches ≡ true → ShowsReceiver to.receiver receiver
  -- what the sending end keeps as sent has just the numbers that wait
  pub sent : from.sends ≡ true → map (λ (p : Sent). p.command.number) from.sent ≡ map (λ n. n % 65536) waiting
  -- what waits was sent, and is within the span
  pub span : (m : ℕ) → Has waiting m → (0 < m) × (m ≤ from.greatest) × (from.greatest < m + 8192)
  -- a number that was sent waits still, or was dispatched or is held: an acknowledgement removes nothing else while the receiving end dispatches
  pub removed : (m : ℕ) → 0 < m → m ≤ from.greatest → Has waiting m ⊎ (to.dispatches ≡ true → IsReceived receiver m)
  -- the front is not ahead of what was sent, at most a packet behind the oldest number that waits, and near the greatest
  pub behind : to.dispatches ≡ true → receiver.front ≤ from.greatest
  pub oldest : to.dispatches ≡ true → (u : ℕ) → u ≤ from.greatest + 1 → ((m : ℕ) → Has waiting m → u ≤ m) → u ≤ receiver.front + 16384
  pub near : to.dispatches ≡ true → from.greatest ≤ receiver.front + 24575
  -- what comes and isn't over 32,768 numbers late was meant with the number below its mark, which is at most 24,575 ahead of the front and 32,768 behind it
  pub distance : to.dispatches ≡ true → (c : PutOut) → IsPut c → is_late from.greatest c.sent_then c.command.number ≡ false
      → (number_below c.sent_then c.command.number ≤ receiver.front + 24575) × (receiver.front ≤ number_below c.sent_then c.command.number + 32768)
  -- and it is read as what was meant, or as nothing
  pub read : to.dispatches ≡ true → (c : PutOut) → IsPut c → is_late from.greatest c.sent_then c.command.number ≡ false
      → (m : IsReadAsMeant from.mtu (carried_by from) receiver c.command) × (m.meant.number ≡ number_below c.sent_then c.command.number)
  -- so all pieces of a packet in the making are of one submitted packet
  pub held : to.dispatches ≡ true → (n : ℕ) (e : IncomingPacket) → get receiver.held n ≡ Some e → OfReliable from.mtu (carried_by from) n e.making
  pub lines : to.dispatches ≡ true → (n k : ℕ) (e : IncomingPacket) → get (line_at receiver.waiting n) k ≡ Some e → OfUnreliable from.mtu (carried_by from) n k e.making

-- how an end of a connection sends on a channel, and how it receives
abbrev pub sending_on : ℕ → End → Sending
sending_on channel e = record {
  sends = is_sending e.peer;
  sent = (sender_on channel e.peer).sent;
  greatest = sent_on channel e;
  mtu = mtu_of e;
  submitted = of_channel (mtu_of e) channel e.submitted;
}

abbrev pub receiving_on : ℕ → End → Receiving
receiving_on channel e = record { dispatches = is_dispatching e.peer; receiver = receiver_on channel e e.peer }

-- a data command of a channel in an end's log
pub record IsPutOn (channel : ℕ) (e : End) (c : PutOut) : Type 0 where
  pub put : Put
  pub logged : Has e.log put
  pub on : put.message.head.channel ≡ channel
  pub is : data_of put.message ≡ Some c.command
  pub marked : put.sent_then ≡ c.sent_then

-- of one channel, from one end to the other
pub record AgreeOn (channel : ℕ) (from to : End) : Type 0 where
  pub agreed : AreAgreed (sending_on channel from) (IsPutOn channel from) (receiving_on channel to)
  -- the greatest number sent is at most the number of commands that were put out
  pub few : sent_on channel from ≤ length from.log

-- on every channel that has sequenced data, both ways
abbrev pub Agree : Connection → Type 0
Agree c = (channel : ℕ) → channel < 255 → AgreeOn channel c.one c.two × AgreeOn channel c.two c.one
