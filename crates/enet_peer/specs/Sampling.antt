-- How long a round trip an acknowledgement can show. Times are in milliseconds.
use Rattle.std.specs.Prelude.{◌≡◌, ℕ, ◌+◌, ◌-◌, ◌%◌, ◌^◌, ◌<◌, ◌≤◌, max, true, List, Option, Some, None, slice_get}
use Rattle.enet_rtt.specs.Clock.{elapsed_time, sample_of}
use Rattle.enet_rtt.specs.SendTimes.{has_time}
use Rattle.enet_rtt.specs.declared.transmission.Transmission.{Transmission}
use Rattle.enet_senders.specs.declared.control.Control.{Control}
use Rattle.enet_senders.specs.declared.control.Control.TheVariants as control
use Rattle.enet_senders.specs.declared.control.SentControl.{SentControl}
use Rattle.enet_senders.specs.Controlling as controlling
use Rattle.enet_sender.specs.declared.sent.Sent.{Sent}
use Rattle.enet_sender.specs.Due.{SendingEnd}
use Rattle.enet_sender.specs.Sender as sender
use Rattle.enet_outbox.specs.Outbox.{Outbox}

abbrev pub at_place : {X : Type 0} → List X → Option ℕ → Option X
at_place sent None = None
at_place sent (Some i) = slice_get sent i

-- the sent command of this number on a channel, and on channel 0xFF
abbrev pub data_of_end : Option SendingEnd → ℕ → Option Sent
data_of_end None number = None
data_of_end (Some s) number = at_place s.sender.sent (sender.position_of number s.sender.sent)

abbrev pub data_on : Outbox → ℕ → ℕ → Option Sent
data_on o channel number = data_of_end (slice_get o.senders channel) number

abbrev pub control_on : Outbox → ℕ → Option SentControl
control_on o number = at_place o.control.sent (controlling.position_of number o.control.sent)

-- on a clock of 32 bits it was sent last no earlier than first, and no later than now
pub record IsPast (now : ℕ) (t : Transmission) : Type 0 where
  pub first : t.first < 2 ^ 32
  pub last : t.last < 2 ^ 32
  pub order : elapsed_time now t.last ≤ elapsed_time now t.first

-- a time of 16 bits that may be one from its first send to its last
abbrev pub IsWithin : ℕ → Transmission → Type 0
IsWithin time t = (time + 2 ^ 16 - t.first % 2 ^ 16) % 2 ^ 16 ≤ elapsed_time t.last t.first

-- the times of a server's answer, of which each send counts by itself, are such
abbrev pub HasTimesAs : Control → SentControl → Type 0
HasTimesAs (control.VerifyConnect verify) p = (time : ℕ) → has_time time p.times ≡ true → IsWithin time p.transmission
HasTimesAs _ p = Unit {0}

abbrev pub HasTimes : SentControl → Type 0
HasTimes p = HasTimesAs p.command.control p

-- the sample that an acknowledgement shows which repeats this time: no more than the time since the first send, or 1
abbrev pub ShowsNoMore : ℕ → ℕ → Transmission → Type 0
ShowsNoMore now time t = sample_of now time ≤ max 1 (elapsed_time now t.first)
