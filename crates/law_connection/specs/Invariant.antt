-- What every run of a connection keeps: the invariant from which its law comes. One event more keeps it.
use Rattle.std.specs.Prelude.{◌≡◌, ℕ, ◌<◌, ◌≤◌, Bool, true, false, List, [], length, Option, Some, None, slice_get}
use Rattle.enet_codec.specs.declared.packet.Packet.{Packet}
use Rattle.enet_receiver.specs.Foresight.{ReceivingEnd}
use Rattle.enet_receiver.specs.Receiver.{nothing_received}
use Rattle.enet_receiver.specs.Sequenced.{HasSequenced}
use Rattle.enet_sender.specs.Due.{SendingEnd}
use Rattle.enet_sender.specs.Sender.{nothing_sent}
use Rattle.enet_peer.specs.declared.parts.PeerState.{PeerState}
use Rattle.enet_peer.specs.declared.parts.PeerState.TheVariants as state
use Rattle.enet_peer.specs.Peering.{Peering}
use Rattle.law_connection.specs.Connection.{End, Connection, packets_of, in_sequence}
use Rattle.law_connection.specs.Linked.{IsLinked, IsClean, sender_in, receiver_in}
use Rattle.law_connection.specs.Life.{LivesOn}

-- all links between two ends: on each channel below 255 one from the own end to the other, and one back
pub record AreLinked (own other : End) : Type 0 where
  pub out : (channel : ℕ) → channel < 255 → IsLinked own other channel
  pub back : (channel : ℕ) → channel < 255 → IsLinked other own channel

-- each sender has the channel of its place
abbrev pub AreInPlace : List SendingEnd → Type 0
AreInPlace senders = (i : ℕ) (s : SendingEnd) → slice_get senders i ≡ Some s → s.channel ≡ i

-- the states before the connection stands
abbrev pub is_young : PeerState → Bool
is_young state.Connecting = true
is_young state.Answering = true
is_young _ = false

-- the states whose terms are agreed and in which packets are submitted, or will be
abbrev pub is_agreed : PeerState → Bool
is_agreed state.Answering = true
is_agreed state.Connected = true
is_agreed _ = false

-- a peer to which these packets were submitted
pub record IsTidy (submitted : List Packet) (p : Peering) : Type 0 where
  pub places : AreInPlace p.outbox.senders
  pub few : length p.outbox.senders ≤ 255
  -- what was dispatched waits in the inbox and not in the receivers, and nothing in sequence has the flags of an unsequenced packet
  pub receivers : (i : ℕ) (r : ReceivingEnd) → slice_get p.inbox.receivers i ≡ Some r → (r.receiver.dispatched ≡ []) × HasSequenced r.receiver
  -- before the connection stands nothing was submitted, sent or received
  pub young : is_young p.state ≡ true → (submitted ≡ []) × ((i : ℕ) → sender_in (slice_get p.outbox.senders i) ≡ nothing_sent) × ((i : ℕ) → receiver_in (slice_get p.inbox.receivers i) ≡ nothing_received)
  pub big : is_agreed p.state ≡ true → 28 < p.terms.mtu

-- no packet that came in sequence is of a channel from 255 on
abbrev pub AreLow : List Packet → Type 0
AreLow qs = (channel : ℕ) → 255 ≤ channel → in_sequence channel qs ≡ []

pub record IsLow (p : Peering) : Type 0 where
  pub channels : length p.inbox.receivers ≤ 255
  pub untaken : AreLow p.inbox.untaken

-- the peer of an end, if it has one
abbrev pub PeerFits : List Packet → Option Peering → Type 0
PeerFits submitted None = submitted ≡ []
PeerFits submitted (Some p) = IsTidy submitted p × IsLow p

-- what an end keeps by itself
pub record IsFit (e : End) : Type 0 where
  pub clean : IsClean e
  pub taken : AreLow (packets_of e.events)
  pub peer : PeerFits e.submitted e.peer

-- what both ends keep; `joined` says that they were connected from the start
pub record Invariant (joined : Bool) (c : Connection) : Type 0 where
  pub both : AreLinked c.one c.two
  pub one : IsFit c.one
  pub two : IsFit c.two
  pub life_one : LivesOn joined c.one
  pub life_two : LivesOn joined c.two
