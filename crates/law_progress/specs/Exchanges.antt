-- Rounds of two connected ends, over all their channels and both ways, in which nothing is lost. Times are in milliseconds.
use Rattle.std.specs.Prelude.{◌≡◌, ℕ, zero, suc, true, false, ◌+◌, ◌<◌, ◌≤◌, List, [], ◌∷◌, ◌++◌, length, map, Some, None, slice_get, ◌⊎◌}
use Rattle.enet_codec.specs.declared.packet.Packet.{Packet}
use Rattle.enet_rtt.specs.Clock.{told_time}
use Rattle.enet_fragment.specs.declared.data.DataCommand.{DataCommand}
use Rattle.enet_fragment.specs.DataCommand.{data_of}
use Rattle.enet_receiver.specs.Foresight.{ReceivingEnd}
use Rattle.enet_sender.specs.declared.sent.Sent.{Sent}
use Rattle.enet_sender.specs.Sender.{marked, is_late as has_waited_out}
use Rattle.enet_sender.specs.Due.{SendingEnd}
use Rattle.enet_inbox.specs.Inbox.{is_full_for, given_way_receiver, given_way}
use Rattle.enet_outbox.specs.Outbox.{is_crowded, marked_sender}
use Rattle.enet_peer.specs.declared.parts.PeerState.TheVariants as state
use Rattle.enet_peer.specs.Peering.{Peering}
use Rattle.enet_peer.specs.CommandEffect.{obeyed}
use Rattle.enet_peer.specs.Calls.{pace_of, tick_of}
use Rattle.law_connection.specs.LinkSteps.{Has, bodies_of}
use Rattle.enet_sender.specs.CommandChoice.{carried}
use Rattle.law_connection.specs.Connection.{Put, End, Connection, of_channel}
use Rattle.law_connection.specs.Examples.{example_packet}
use Rattle.law_connection.specs.Invariant.{Invariant}
use Rattle.law_connection.specs.Law.{mtu_of, offset_of}
use Rattle.law_connection.specs.Linked.{dispatched_on}
use Rattle.law_connection.specs.Steps.{Emit, Come, Tick, Take, Happens, InTime}
use Rattle.law_progress.specs.Links.{AllDispatched, outstanding_at}
use Rattle.law_progress.specs.Outboxes.{AllFit, NothingMayGo}
use Rattle.law_progress.specs.Rounds.{AreOver}

-- an end's peer has room for a command of the end `from`, and for its acknowledgement. Where it is sequenced data, the peer has its channel,
-- room once the unreliable packets that wait give way, and takes in packets of each length that was submitted
pub record HasRoomFor (from : End) (put : Put) (q : Peering) : Type 0 where
  pub there : (c : DataCommand) → data_of put.message ≡ Some c → (end : ReceivingEnd) × (slice_get q.inbox.receivers put.message.head.channel ≡ Some end)
      × (is_full_for (given_way q.inbox) (given_way_receiver end) c ≡ false) × ((x : Packet) → Has from.submitted x → length x.body ≤ end.max_packet)
  pub free : is_crowded q.outbox ≡ false

-- a command that the end `from` put out comes to the end `to`, which is connected, has room for it or doesn't stop at it, and stays
-- connected. What is over 32,768 numbers late is passed over: an acknowledgement that waited long may be
pub record Comes (now time : ℕ) (from : End) (put : Put) (to new : End) : Type 0 where
  pub peer : Peering
  pub is : to.peer ≡ Some peer
  pub connected : peer.state ≡ state.Connected
  pub room : HasRoomFor from put peer ⊎ ((obeyed peer now (Some time) put.message).stop ≡ None)
  pub after : Happens to from (Come put now (Some time)) new ⊎ ((InTime to from put → ⊥) × (new ≡ to))
  pub stays : (q : Peering) → new.peer ≡ Some q → q.state ≡ state.Connected

abbrev pub AllCome : ℕ → ℕ → End → List Put → End → End → Type 0
AllCome now time from [] to new = new ≡ to
AllCome now time from (put ∷ puts) to new = (between : End) × Comes now time from put to between × AllCome now time from puts between new

-- the user of an end takes so many events
abbrev pub Takes : ℕ → End → End → End → Type 0
Takes zero own other new = new ≡ own
Takes (suc n) own other new = (between : End) × Happens own other Take between × Takes n between other new

-- an end puts out a datagram, and each of its commands comes at once at the other, in order, with the sent time that the datagram tells;
-- and then the other's user takes what it likes. `now` and `there` are what the clocks of the two show
pub record PutsOne (now there : ℕ) (from to from' to' : End) : Type 0 where
  pub goes : Happens from to (Emit now) from'
  pub new : List Put
  pub logged : from'.log ≡ from.log ++ new
  pub arrived : End
  pub come : AllCome there (told_time now (offset_of from)) from' new to arrived
  pub events : ℕ
  pub takes : Takes events arrived from' to'

abbrev pub PutsMany : ℕ → ℕ → ℕ → End → End → End → End → Type 0
PutsMany now there zero from to from' to' = (from' ≡ from) × (to' ≡ to)
PutsMany now there (suc n) from to from' to' = (f t : End) × PutsOne now there from to f t × PutsMany now there n f t from' to'

-- an end puts out all that it may
pub record PutsAll (now there : ℕ) (from to from' to' : End) : Type 0 where
  pub datagrams : ℕ
  pub puts : PutsMany now there datagrams from to from' to'
  pub spent : (p : Peering) → from'.peer ≡ Some p → NothingMayGo (pace_of p now) p.outbox

-- an end's peer, which is connected, and all that it has to send fits its datagrams
pub record IsOpen (e : End) (p : Peering) : Type 0 where
  pub is : e.peer ≡ Some p
  pub connected : p.state ≡ state.Connected
  pub fit : (when : ℕ) → AllFit (pace_of p when) p.outbox

-- a round: the clocks come to `now` and `there`, by which no end's patience is over; and then the one end puts out all that it may, the
-- other end does, and the one end does again
pub record RoundOfBoth (now there : ℕ) (c d : Connection) : Type 0 where
  pub one : End
  pub ticks_one : Happens c.one c.two (Tick now) one
  pub patient_one : (p : Peering) → one.peer ≡ Some p → p.state ≡ state.Connected
  pub two : End
  pub ticks_two : Happens c.two one (Tick there) two
  pub patient_two : (p : Peering) → two.peer ≡ Some p → p.state ≡ state.Connected
  pub one_out : End
  pub two_in : End
  pub forth : PutsAll now there one two one_out two_in
  pub two_out : End
  pub one_in : End
  pub back : PutsAll there now two_in one_out two_out one_in
  pub answers : PutsAll now there one_in two_out d.one d.two

-- the data commands that an end has outstanding, over all its channels: those queued, and those that wait for their acknowledgement
abbrev pub outstanding_over : List SendingEnd → ℕ
outstanding_over [] = 0
outstanding_over (s ∷ rest) = outstanding_at s.sender + outstanding_over rest

-- nothing went on any channel: all that is outstanding is as it was, but that what had waited out its timeout is due to go again; and if
-- anything is outstanding, a command in transit, which is sent and neither due nor late, waits for its acknowledgement. So time alone passes
pub record OnlyWaits (now : ℕ) (p q : Peering) : Type 0 where
  pub same : q.outbox.senders ≡ map (marked_sender (tick_of p now)) p.outbox.senders
  pub waits : (outstanding_over q.outbox.senders ≡ 0) ⊎ ((s : SendingEnd) × Has q.outbox.senders s × (t : Sent) × Has s.sender.sent t × (t.transmission.due ≡ false) × (has_waited_out now t ≡ false))

-- what a round brings to two peers that are open: fewer commands are outstanding at the two together; or nothing went at either, and time
-- alone passed, at the one end by the time that the other had put out all that it may, and at the other by the round's end
pub record ProgressesBoth (now there : ℕ) (p q : Peering) {c d : Connection} (r : RoundOfBoth now there c d) : Type 0 where
  pub one : Peering
  pub is_one : d.one.peer ≡ Some one
  pub two : Peering
  pub is_two : d.two.peer ≡ Some two
  pub less : (outstanding_over one.outbox.senders + outstanding_over two.outbox.senders < outstanding_over p.outbox.senders + outstanding_over q.outbox.senders)
      ⊎ ((outstanding_over one.outbox.senders ≤ outstanding_over p.outbox.senders) × ((u : Peering) × (r.one_in.peer ≡ Some u) × OnlyWaits now p u) × OnlyWaits there q two)

-- a command that was sent on a channel waits for its acknowledgement
abbrev pub HasSent : List SendingEnd → ℕ → Sent → Type 0
HasSent senders channel t = (s : SendingEnd) × (slice_get senders channel ≡ Some s) × Has s.sender.sent t

-- all that waits at the peer u waited at p: it is as it was, and neither due to go again nor late; or it is due, since there was no room
abbrev pub HasWaited : ℕ → Peering → Peering → Type 0
HasWaited now p u = (channel : ℕ) (t : Sent) → HasSent u.outbox.senders channel t → (HasSent p.outbox.senders channel t × (t.transmission.due ≡ false) × (has_waited_out now t ≡ false))
    ⊎ ((t.transmission.due ≡ true) × (x : Sent) × HasSent p.outbox.senders channel x × (marked (tick_of p now) x ≡ t))

-- whatever went in a round is acknowledged in it, but for what the one end put out in its second turn
pub record AllAcknowledged (now there : ℕ) (p q : Peering) {c d : Connection} (r : RoundOfBoth now there c d) : Type 0 where
  pub one : Peering
  pub is_one : r.one_in.peer ≡ Some one
  pub old_one : HasWaited now p one
  pub two : Peering
  pub is_two : d.two.peer ≡ Some two
  pub old_two : HasWaited there q two

-- by this moment all that a peer sent on its channels is due to go again, or has waited out its timeout
abbrev pub AllOver : ℕ → Peering → Type 0
AllOver now p = (s : SendingEnd) → Has p.outbox.senders s → AreOver now s.sender.sent

-- rounds at these moments, one after another, at the beginning of each of which both ends are open
abbrev pub RoundsOfBoth : List (ℕ × ℕ) → Connection → Connection → Type 0
RoundsOfBoth [] c d = d ≡ c
RoundsOfBoth (m ∷ moments) c d = (p q : Peering) × IsOpen c.one p × IsOpen c.two q × (b : Connection) × RoundOfBoth m.0 m.1 c b × RoundsOfBoth moments b d

-- what the user of an end submitted reliably on a channel was dispatched at the other end, taken or not, in order
abbrev pub IsThrough : End → End → Peering → ℕ → Type 0
IsThrough from to q channel = AllDispatched (carried (mtu_of from) (of_channel (mtu_of from) channel from.submitted)) (bodies_of (dispatched_on channel to q))

-- nothing is outstanding at either of two ends, and each reliable packet that was submitted at either was dispatched at the other
pub record BothThrough (d : Connection) : Type 0 where
  pub one : Peering
  pub is_one : d.one.peer ≡ Some one
  pub two : Peering
  pub is_two : d.two.peer ≡ Some two
  pub none : outstanding_over one.outbox.senders + outstanding_over two.outbox.senders ≡ 0
  pub forth : (channel : ℕ) → channel < 255 → IsThrough d.one d.two two channel
  pub back : (channel : ℕ) → channel < 255 → IsThrough d.two d.one one channel

-- there is such a round, of a pair that is connected from the start: the one end has a reliable packet to send before it, and nothing
-- outstanding after it
abbrev pub SomeRound : Type 0
SomeRound = (c d : Connection) × (p q : Peering) × Invariant true c × IsOpen c.one p × IsOpen c.two q × RoundOfBoth 0 0 c d
    × (c.one.submitted ≡ example_packet ∷ []) × (outstanding_over p.outbox.senders ≡ 1) × (u : Peering) × (d.one.peer ≡ Some u) × (outstanding_over u.outbox.senders ≡ 0)
