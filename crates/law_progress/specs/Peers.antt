-- What a connected peer makes of a command that its sender waits for.
use Rattle.std.specs.Prelude.{◌≡◌, ℕ, ◌+◌, ◌<◌, ◌≤◌, ◌&&◌, not, Bool, true, false, List, length, map, Some, None, slice_get}
use Rattle.enet_codec.specs.declared.packet.Packet.{Packet}
use Rattle.enet_rtt.specs.Transmission.{went_at}
use Rattle.enet_fragment.specs.declared.data.DataCommand.{DataCommand}
use Rattle.enet_fragment.specs.DataCommand.{data_of, message_of}
use Rattle.enet_receiver.specs.Foresight.{ReceivingEnd}
use Rattle.enet_sender.specs.declared.sent.Sent.{Sent}
use Rattle.enet_sender.specs.Sender.{after_acknowledgement}
use Rattle.enet_sender.specs.Due.{SendingEnd}
use Rattle.enet_inbox.specs.Inbox.{is_full, is_full_for, given_way_receiver, given_way}
use Rattle.enet_senders.specs.Controlling.{is_reliable}
use Rattle.enet_senders.specs.Controlling as controlling
use Rattle.enet_senders.specs.declared.control.Control.{Control}
use Rattle.enet_senders.specs.declared.control.Control.TheVariants as control
use Rattle.enet_senders.specs.declared.control.Numbered.{Numbered}
use Rattle.enet_senders.specs.declared.control.SentControl.{SentControl}
use Rattle.enet_outbox.specs.declared.parts.Unsequenced.{Unsequenced}
use Rattle.enet_outbox.specs.Outbox.{is_crowded, with_acknowledgement}
use Rattle.enet_peer.specs.declared.parts.PeerState.TheVariants as state
use Rattle.enet_peer.specs.Peering.{Peering}
use Rattle.enet_peer.specs.CommandEffect.{Outcome}
use Rattle.law_connection.specs.Link.{is_late}
use Rattle.law_connection.specs.LinkSteps.{Has}
use Rattle.law_connection.specs.Connection.{Put, End, sent_on}
use Rattle.law_connection.specs.Linked.{sends_in, sender_in}

-- a reliable data command that one end put out, with the peer p, waits there for its acknowledgement, and isn't late; the other end's
-- peer q is connected, takes in packets of each length that was submitted, and has room for the command, if need be once the unreliable
-- packets that wait give way, and for its acknowledgement. For the next packet in order the former is so while what the user hasn't taken
-- leaves room, whatever else waits; the latter while fewer acknowledgements wait to go than may, as after each datagram that was put out
pub record Awaits (from to : End) (p q : Peering) (put : Put) (channel : ℕ) (c : DataCommand) : Type 0 where
  pub from_is : from.peer ≡ Some p
  pub to_is : to.peer ≡ Some q
  pub sends : sends_in p.state ≡ true
  pub connected : q.state ≡ state.Connected
  pub logged : Has from.log put
  pub message : put.message ≡ message_of channel c
  pub reads : data_of (message_of channel c) ≡ Some c
  pub reliable : c.reliable ≡ true
  pub waits : Has (map (λ (s : Sent). s.command.number) (sender_in (slice_get p.outbox.senders channel)).sent) c.number
  pub in_time : is_late (sent_on channel from) put.sent_then c.number ≡ false
  pub end : ReceivingEnd
  pub there : slice_get q.inbox.receivers channel ≡ Some end
  pub room : is_full_for (given_way q.inbox) (given_way_receiver end) c ≡ false
  pub free : is_crowded q.outbox ≡ false
  pub short : (x : Packet) → Has from.submitted x → length x.body ≤ end.max_packet

-- an unreliable data command that one end put out comes in time to the other end's peer q, which is connected, takes in packets of each
-- length that was submitted, and has room for it, if need be once the unreliable packets that wait give way
pub record Comes (from to : End) (q : Peering) (put : Put) (channel : ℕ) (c : DataCommand) : Type 0 where
  pub to_is : to.peer ≡ Some q
  pub connected : q.state ≡ state.Connected
  pub logged : Has from.log put
  pub message : put.message ≡ message_of channel c
  pub reads : data_of (message_of channel c) ≡ Some c
  pub unreliable : c.reliable ≡ false
  pub in_time : is_late (sent_on channel from) put.sent_then c.number ≡ false
  pub end : ReceivingEnd
  pub there : slice_get q.inbox.receivers channel ≡ Some end
  pub room : is_full_for (given_way q.inbox) (given_way_receiver end) c ≡ false
  pub short : (x : Packet) → Has from.submitted x → length x.body ≤ end.max_packet

-- it is taken in without a stop, and its acknowledgement waits to go
pub record IsAnswered (q : Peering) (channel time : ℕ) (c : DataCommand) (o : Outcome) : Type 0 where
  pub stop : o.stop ≡ None
  pub waits : o.after.outbox ≡ with_acknowledgement q.outbox (record { channel = channel; number = c.number; time = time })

-- the sent command of this number, of which there is one at most, went at this time of 16 bits
abbrev pub WentThen : List Sent → ℕ → ℕ → Type 0
WentThen sent number time = (t : Sent) → Has sent t → t.command.number ≡ number → went_at time t.transmission ≡ true

-- the same on channel 0xFF
abbrev pub ControlWentThen : List SentControl → ℕ → ℕ → Type 0
ControlWentThen sent number time = (t : SentControl) → Has sent t → t.command.number ≡ number → controlling.went_at time t ≡ true

-- the command of this number is gone from its channel's sender, which is else as it was; the peer is connected as before
pub record IsRemoved (p : Peering) (channel number : ℕ) (s : SendingEnd) (o : Outcome) : Type 0 where
  pub stop : o.stop ≡ None
  pub connected : o.after.state ≡ state.Connected
  pub after : SendingEnd
  pub there : slice_get o.after.outbox.senders channel ≡ Some after
  pub is : after.sender ≡ after_acknowledgement s.sender number
  pub less : length after.sender.sent + 1 ≡ length s.sender.sent

-- whether a peer takes a command of channel 0xFF in from nobody: CONNECT, and VERIFY_CONNECT where it answered a CONNECT itself
abbrev pub is_refused : Peering → Control → Bool
is_refused q (control.Connect offer) = true
is_refused q (control.VerifyConnect verify) = q.is_server
is_refused q _ = false

-- whether one asks for the end
abbrev pub ends : Control → Bool
ends (control.Disconnect info) = true
ends _ = false

-- a command of channel 0xFF that asks for its acknowledgement, and that the peer takes in, is taken in without a stop, and its acknowledgement
-- waits to go, where fewer acknowledgements wait than may: DISCONNECT also where as many do, which it drops
abbrev pub IsHeard : Peering → Numbered → ℕ → Outcome → Type 0
IsHeard q n time o = is_reliable n.control ≡ true → is_refused q n.control ≡ false → (not (ends n.control) && is_crowded q.outbox) ≡ false
    → (o.stop ≡ None) × Has o.after.outbox.acknowledgements (record { channel = 0xFF; number = n.number; time = time })

-- a connected peer has the channel of an unsequenced packet, takes in packets of its length, and has room for it, if need be once the
-- unreliable packets that wait give way
pub record TakesIn (q : Peering) (u : Unsequenced) : Type 0 where
  pub connected : q.state ≡ state.Connected
  pub channel : u.channel < length q.inbox.receivers
  pub short : length u.body ≤ q.inbox.max_packet
  pub room : is_full (given_way q.inbox) ≡ false

-- the command of channel 0xFF of this number is gone, and no other; the peer is connected as before
pub record IsTakenAway (p : Peering) (number : ℕ) (o : Outcome) : Type 0 where
  pub stop : o.stop ≡ None
  pub connected : o.after.state ≡ state.Connected
  pub control : o.after.outbox.control ≡ controlling.after_acknowledgement p.outbox.control number
  pub less : length o.after.outbox.control.sent + 1 ≡ length p.outbox.control.sent
