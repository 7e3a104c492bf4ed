-- When a peer has something to put out.
use Rattle.std.specs.Prelude.{◌≡◌, ℕ, zero, suc, true, false, ◌+◌, ◌≤◌, if◌then◌else◌, List, [], ◌∷◌, ◌++◌, length, Some, None, slice_get, ◌⊎◌}
use Rattle.enet_codec.specs.Message.{Message}
use Rattle.enet_fragment.specs.declared.data.DataCommand.{DataCommand}
use Rattle.enet_senders.specs.Controlling.{Commands}
use Rattle.enet_senders.specs.Controlling as controlling
use Rattle.enet_senders.specs.declared.control.Numbered.{Numbered}
use Rattle.enet_senders.specs.declared.control.SentControl.{SentControl}
use Rattle.enet_fragment.specs.DataCommand.{message_of}
use Rattle.enet_seq.specs.Numbering.{wire}
use Rattle.enet_sender.specs.Sender.{Sender, next}
use Rattle.enet_sender.specs.declared.sent.Sent.{Sent}
use Rattle.enet_sender.specs.Due.{SendingEnd}
use Rattle.enet_outbox.specs.declared.parts.Acknowledgement.{Acknowledgement}
use Rattle.enet_outbox.specs.declared.parts.Pace.{Pace}
use Rattle.enet_outbox.specs.declared.parts.Unsequenced.{Unsequenced}
use Rattle.enet_outbox.specs.Outbox.{Outbox}
use Rattle.enet_outbox.specs.Room.{RoomIsAwaited}
use Rattle.enet_outbox.specs.Emission.{Filling, acknowledgement_of, filled, occasion}
use Rattle.enet_receiver.specs.Members.{Has}

-- each packet that waits fits an empty datagram
pub record AreFit (pace : Pace) (o : Outbox) : Type 0 where
  pub mtu : 576 ≤ pace.mtu
  pub unsequenced : (u : Unsequenced) → Has o.unsequenced u → length u.body + 28 ≤ pace.mtu
  pub queued : (i : ℕ) (s : SendingEnd) → slice_get o.senders i ≡ Some s → (c : DataCommand) → Has s.sender.queued c → length c.body + 28 ≤ pace.mtu

-- so does each command that was sent and may have to go again; and the room in transit is kept for no channel of which nothing may wait for it
pub record AllFit (pace : Pace) (o : Outbox) : Type 0 where
  pub fit : AreFit pace o
  pub awaited : RoomIsAwaited o
  pub sent : (i : ℕ) (s : SendingEnd) → slice_get o.senders i ≡ Some s → (p : Sent) → Has s.sender.sent p → length p.command.body + 28 ≤ pace.mtu

-- nothing waits for its acknowledgement on any channel
abbrev pub AreQuiet : List SendingEnd → Type 0
AreQuiet senders = (i : ℕ) (s : SendingEnd) → slice_get senders i ≡ Some s → s.sender.sent ≡ []

-- and on one a reliable command is queued
pub record HasNew (senders : List SendingEnd) (channel : ℕ) : Type 0 where
  pub end : SendingEnd
  pub there : slice_get senders channel ≡ Some end
  pub command : DataCommand
  pub queued : Has end.sender.queued command
  pub reliable : command.reliable ≡ true

-- at least one
abbrev pub AreSome : List Message → Type 0
AreSome ms = (m : Message) × Has ms m

-- no acknowledgement waits, and no command of channel 0xFF is due or may go
pub record IsSpent (pace : Pace) (o : Outbox) : Type 0 where
  pub acknowledgements : o.acknowledgements ≡ []
  pub controls : controlling.next pace.now pace.timeout o.control ≡ None

-- nothing may go: no acknowledgement and no unsequenced packet waits, and of no channel a sent command that is due to go again, or the head
-- of the queue, may go
pub record NothingMayGo (pace : Pace) (o : Outbox) : Type 0 where
  pub acknowledgements : o.acknowledgements ≡ []
  pub controls : controlling.next pace.now pace.timeout o.control ≡ None
  pub unsequenced : o.unsequenced ≡ []
  pub channels : (i : ℕ) (s : SendingEnd) → slice_get o.senders i ≡ Some s → next wire (occasion pace i o) s.sender ≡ None

-- a data command is in transit: it was sent, and waits for its acknowledgement, and isn't due to go again
abbrev pub IsInTransit : List SendingEnd → Type 0
IsInTransit senders = (s : SendingEnd) × Has senders s × (t : Sent) × Has s.sender.sent t × (t.transmission.due ≡ false)

-- a command that was sent waits for its acknowledgement, and isn't due to go again
abbrev pub WaitsForSome : Outbox → Type 0
WaitsForSome o = ((t : SentControl) × Has o.control.sent t × (t.transmission.due ≡ false)) ⊎ IsInTransit o.senders

-- of an outbox and a datagram that is filled from it, with the same channels: each reliable command that was queued still is, or was put
-- in; so each acknowledgement; and each that was sent, so also where it was due to go again, is sent as before, or was put in
pub record GoOrStay (o : Outbox) (f : Filling) : Type 0 where
  pub queued : (i : ℕ) (s t : SendingEnd) → slice_get o.senders i ≡ Some s → slice_get f.outbox.senders i ≡ Some t → (c : DataCommand) → Has s.sender.queued c → c.reliable ≡ true
      → Has t.sender.queued c ⊎ Has f.messages (message_of s.channel c)
  pub acknowledgements : (a : Acknowledgement) → Has o.acknowledgements a → Has f.outbox.acknowledgements a ⊎ Has f.messages (acknowledgement_of a)
  pub there : (i : ℕ) (s : SendingEnd) → slice_get o.senders i ≡ Some s → (t : SendingEnd) × (slice_get f.outbox.senders i ≡ Some t) × (t.channel ≡ s.channel)
  pub due : (i : ℕ) (s t : SendingEnd) → slice_get o.senders i ≡ Some s → slice_get f.outbox.senders i ≡ Some t → (p : Sent) → Has s.sender.sent p → p.command.reliable ≡ true
      → Has t.sender.sent p ⊎ Has f.messages (message_of s.channel p.command)
  pub controls : (n : Numbered) → Has o.control.queued n → Has f.outbox.control.queued n ⊎ Has f.messages (controlling.message_of n)
  pub due_controls : (p : SentControl) → Has o.control.sent p → Has f.outbox.control.sent p ⊎ Has f.messages (controlling.message_of p.command)

-- an outbox after so many datagrams, one after another at one moment, and all that they had
abbrev pub after_datagrams : Pace → ℕ → Outbox → Outbox
after_datagrams pace zero o = o
after_datagrams pace (suc n) o = after_datagrams pace n (filled pace o).outbox

abbrev pub put_out : Pace → ℕ → Outbox → List Message
put_out pace zero o = []
put_out pace (suc n) o = (filled pace o).messages ++ put_out pace n (filled pace o).outbox

-- a sent command of a channel is there still, as it was
abbrev pub StaysSent : ℕ → Sent → Outbox → Type 0
StaysSent i p o = (s : SendingEnd) × (slice_get o.senders i ≡ Some s) × Has s.sender.sent p

-- after so many datagrams nothing may go, and the acknowledgements that waited before were in them, and all that was due to go again; but a
-- data command may be due still, where something is in transit
pub record IsPutOut (pace : Pace) (o : Outbox) (n : ℕ) : Type 0 where
  pub rests : NothingMayGo pace (after_datagrams pace n o)
  pub acknowledgements : (a : Acknowledgement) → Has o.acknowledgements a → Has (put_out pace n o) (acknowledgement_of a)
  pub due : (i : ℕ) (s : SendingEnd) → slice_get o.senders i ≡ Some s → (p : Sent) → Has s.sender.sent p → p.transmission.due ≡ true → p.command.reliable ≡ true
      → Has (put_out pace n o) (message_of s.channel p.command) ⊎ (StaysSent i p (after_datagrams pace n o) × IsInTransit (after_datagrams pace n o).senders)
  pub controls : (p : SentControl) → Has o.control.sent p → p.transmission.due ≡ true → Has (put_out pace n o) (controlling.message_of p.command)

-- what is ready to go: all that waits to go first, and what is due to go again
abbrev pub due_count : List Sent → ℕ
due_count [] = 0
due_count (p ∷ ps) = if p.transmission.due then due_count ps + 1 else due_count ps

abbrev pub due_controls : List SentControl → ℕ
due_controls [] = 0
due_controls (p ∷ ps) = if p.transmission.due then due_controls ps + 1 else due_controls ps

abbrev pub ready_at : Sender → ℕ
ready_at s = length s.queued + due_count s.sent

abbrev pub ready_over : List SendingEnd → ℕ
ready_over [] = 0
ready_over (s ∷ rest) = ready_at s.sender + ready_over rest

abbrev pub ready_controls : Commands → ℕ
ready_controls c = length c.queued + due_controls c.sent

abbrev pub ready : Outbox → ℕ
ready o = length o.acknowledgements + ready_controls o.control + length o.unsequenced + ready_over o.senders
