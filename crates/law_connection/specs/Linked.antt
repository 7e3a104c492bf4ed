-- How two ends and their lists show a link, on one channel from the one to the other.
use Rattle.std.specs.Prelude.{◌≡◌, ℕ, Bool, true, false, ◌<◌, ◌≤◌, ◌⊎◌, ◌==◌, if◌then◌else◌, List, [], ◌∷◌, ◌++◌, length, Option, Some, None, slice_get}
use Rattle.enet_codec.specs.Message.{acknowledge}
use Rattle.enet_fragment.specs.declared.data.DataCommand.{DataCommand}
use Rattle.enet_fragment.specs.DataCommand.{data_of}
use Rattle.enet_packets.specs.declared.incoming_packet.Dispatched.{Dispatched}
use Rattle.enet_receiver.specs.Receiver.{Receiver, nothing_received}
use Rattle.enet_receiver.specs.Foresight.{ReceivingEnd}
use Rattle.enet_sender.specs.Sender.{Sender, nothing_sent}
use Rattle.enet_sender.specs.Due.{SendingEnd}
use Rattle.enet_outbox.specs.declared.parts.Acknowledgement.{Acknowledgement}
use Rattle.enet_peer.specs.declared.parts.PeerState.{PeerState}
use Rattle.enet_peer.specs.declared.parts.PeerState.TheVariants as state
use Rattle.enet_peer.specs.Peering.{Peering}
use Rattle.law_connection.specs.WireLink.{WireLink}
use Rattle.law_connection.specs.LinkSteps.{Has, Event, Runs, fresh_link}
use Rattle.law_connection.specs.Connection.{Put, End, sent_on, of_channel, packets_of, in_sequence}
use Rattle.law_connection.specs.Law.{mtu_of}

-- the states in which an end still sends data, and those in which it still dispatches; in the first two there is no data yet
abbrev pub sends_in : PeerState → Bool
sends_in state.Connecting = true
sends_in state.Answering = true
sends_in state.Connected = true
sends_in state.DisconnectLater = true
sends_in _ = false

abbrev pub dispatches_in : PeerState → Bool
dispatches_in state.Connecting = true
dispatches_in state.Answering = true
dispatches_in state.Connected = true
dispatches_in _ = false

abbrev pub sender_in : Option SendingEnd → Sender
sender_in None = nothing_sent
sender_in (Some s) = s.sender

abbrev pub receiver_in : Option ReceivingEnd → Receiver
receiver_in None = nothing_received
receiver_in (Some r) = r.receiver

-- the numbers of the waiting acknowledgements of a channel
abbrev pub numbers_on : ℕ → List Acknowledgement → List ℕ
numbers_on channel [] = []
numbers_on channel (a ∷ as') = if a.channel == channel then a.number ∷ numbers_on channel as' else numbers_on channel as'

-- the sending end's part. An end without a peer has sent nothing; one that no longer sends has nothing left to send
abbrev pub ShowsSending : Option Peering → ℕ → WireLink → Type 0
ShowsSending None channel v = (v.is_sending ≡ true) × (v.outgoing ≡ nothing_sent)
ShowsSending (Some p) channel v =
    (sends_in p.state ≡ true → (v.is_sending ≡ true) × (v.outgoing ≡ sender_in (slice_get p.outbox.senders channel)))
    × (sends_in p.state ≡ false → (sender_in (slice_get p.outbox.senders channel)).queued ≡ [])
    × (sends_in p.state ≡ false → (sender_in (slice_get p.outbox.senders channel)).sent ≡ [])
    × ((s : SendingEnd) → slice_get p.outbox.senders channel ≡ Some s → s.channel ≡ channel)

-- what was dispatched of a channel, taken or not
abbrev pub dispatched_on : ℕ → End → Peering → List Dispatched
dispatched_on channel e p = in_sequence channel (packets_of e.events) ++ in_sequence channel p.inbox.untaken

-- the receiving end's part
abbrev pub ShowsReceiving : End → Option Peering → ℕ → WireLink → Type 0
ShowsReceiving e None channel v = (v.is_open ≡ true) × (v.incoming ≡ nothing_received) × (v.answers ≡ []) × (in_sequence channel (packets_of e.events) ≡ [])
ShowsReceiving e (Some p) channel v =
    (dispatches_in p.state ≡ v.is_open)
    × (v.is_open ≡ true → v.incoming ≡ record (receiver_in (slice_get p.inbox.receivers channel)) { dispatched = dispatched_on channel e p })
    × (v.incoming.dispatched ≡ dispatched_on channel e p)
    × (v.answers ≡ numbers_on channel p.outbox.acknowledgements)

-- a link on a channel below 255 from one end to the other, after a run of link events, as the ends and their logs show it
pub record IsLinked (from to : End) (channel : ℕ) : Type 0 where
  -- the mtu is the sending end's, which is agreed once something was submitted
  pub mtu : ℕ
  pub big : 28 < mtu
  pub agreed : (from.submitted ≡ []) ⊎ (mtu_of from ≡ mtu)
  -- a link that was reached from the empty one, with no datagram in the making
  pub link : WireLink
  pub events : List Event
  pub runs : Runs mtu events fresh_link link
  pub between : link.making ≡ []
  -- what was submitted on the channel, the greatest number sent, and both ends' parts are those of the ends
  pub submitted : link.submitted ≡ of_channel mtu channel from.submitted
  pub greatest : link.greatest ≡ sent_on channel from
  pub sending : ShowsSending from.peer channel link
  pub receiving : ShowsReceiving to to.peer channel link
  -- every data command and every acknowledgement of the channel that an end put out is one that the link put out, with its mark
  pub commands : (p : Put) (c : DataCommand) → Has from.log p → p.message.head.channel ≡ channel → data_of p.message ≡ Some c → Has link.commands (record { command = c; sent_then = p.sent_then })
  pub acks : (p : Put) (number time : ℕ) → Has to.log p → p.message.head.channel ≡ channel → p.message.body ≡ acknowledge number time → Has link.acks (record { number = number; sent_then = p.sent_then })
  -- and the link put out no more data commands than the end put out commands
  pub few : length link.commands ≤ length from.log

-- what is in a log: sequenced data is of a channel below 255, and of those channels only reliable data asks for an acknowledgement
pub record IsClean (e : End) : Type 0 where
  pub low : (p : Put) (c : DataCommand) → Has e.log p → data_of p.message ≡ Some c → p.message.head.channel < 255
  pub asks : (p : Put) → Has e.log p → p.message.head.acknowledge ≡ true → p.message.head.channel < 255 → (c : DataCommand) × (data_of p.message ≡ Some c) × (c.reliable ≡ true)
