-- The sender of channel 0xFF: what is queued, and what is sent and not yet acknowledged. Times are in milliseconds.
use Rattle.std.specs.Prelude.{◌≡◌, ℕ, ◌+◌, ◌<◌, Bool, true, false, ◌&&◌, not, ◌==◌, nat_lt, nat_le, if◌then◌else◌, List, [], ◌∷◌, ◌++◌, length, map, Option, Some, None, slice_get, slice_set, is_some}
use Rattle.std.specs.List.{position, remove}
use Rattle.enet_codec.specs.Message.{Message, Body, connect, verify_connect, disconnect, ping, bandwidth_limit, throttle_configure, IsMessage, canonical}
use Rattle.enet_codec.specs.Writing.{Puts}
use Rattle.enet_seq.specs.Windows.{after, ahead}
use Rattle.enet_rtt.specs.Clock.{elapsed_time}
use Rattle.enet_rtt.specs.SendTimes.{no_sends, with_send, has_time}
use Rattle.enet_rtt.specs.Transmission as transmission
use Rattle.enet_rtt.specs.declared.transmission.Tick.{Tick}
use Rattle.enet_rtt.specs.declared.expiry.Patience.{Patience}
use Rattle.enet_rtt.specs.declared.expiry.Expiry.{Expiry}
use Rattle.enet_rtt.specs.declared.expiry.Expiry.TheVariants.{No, Resend, End}
use Rattle.enet_sender.specs.Due.{Buffer}
use Rattle.enet_senders.specs.declared.control.Control.{Control}
use Rattle.enet_senders.specs.declared.control.Control.TheVariants as control
use Rattle.enet_senders.specs.declared.control.Numbered.{Numbered}
use Rattle.enet_senders.specs.declared.control.SentControl.{SentControl}
use Rattle.enet_senders.specs.declared.outgoing.Written.{Written}
use Rattle.enet_senders.specs.declared.outgoing.Written.TheVariants as written

pub record Commands : Type 0 where
  pub number : ℕ  -- the last number given
  pub queued : List Numbered
  pub sent : List SentControl  -- sent and not acknowledged, in the order of their first sends

-- the commands, and for how many more there is room
pub record Controlling : Type 0 where
  pub commands : Commands
  pub room : ℕ

-- no command is queued or sent, so many having been numbered before
abbrev pub nothing_controlled : ℕ → Commands
nothing_controlled number = record { number = number; queued = []; sent = [] }

-- a command gets the next number
abbrev pub with_queued : Commands → Control → Commands
with_queued c what = record c {
  number = after c.number 1;
  queued = c.queued ++ (record { number = after c.number 1; control = what }) ∷ [];
}

-- what a command says
abbrev pub body_of : Control → Body
body_of (control.Connect offer) = connect offer
body_of (control.VerifyConnect verify) = verify_connect verify
body_of (control.Disconnect info) = disconnect info
body_of (control.DisconnectNow info) = disconnect info
body_of control.Ping = ping
body_of (control.BandwidthLimit incoming outgoing) = bandwidth_limit incoming outgoing
body_of (control.ThrottleConfigure interval acceleration deceleration) = throttle_configure interval acceleration deceleration

-- whether it is acknowledged; the others are unsequenced
abbrev pub is_reliable : Control → Bool
is_reliable (control.DisconnectNow info) = false
is_reliable _ = true

-- the command on the wire, on channel 0xFF
abbrev pub message_of : Numbered → Message
message_of n = record {
  head = record { acknowledge = is_reliable n.control; unsequenced = not (is_reliable n.control); channel = 0xFF; number = n.number };
  body = body_of n.control;
}

-- sent once more
abbrev pub again : ℕ → SentControl → SentControl
again now p = record p { transmission = transmission.again now p.transmission; times = with_send now p.times }

-- sent for the first time
abbrev pub begun : ℕ → ℕ → Numbered → SentControl
begun now timeout n = record { command = n; transmission = transmission.begun now timeout; times = with_send now no_sends }

-- a command goes for the first time only where its number is less than 8,192 past the oldest unacknowledged one
abbrev pub is_in_span : List SentControl → ℕ → Bool
is_in_span [] number = true
is_in_span (oldest ∷ sent) number = nat_lt (ahead oldest.command.number number) 8192

-- what is due next: a command with the sender after it
pub record Next : Type 0 where
  pub command : Numbered
  pub commands : Commands

abbrev pub next_queued : ℕ → ℕ → Commands → List Numbered → Option Next
next_queued now timeout c [] = None
next_queued now timeout c (n ∷ rest) =
    if is_in_span c.sent n.number
    then Some (record { command = n; commands = record c { queued = rest; sent = if is_reliable n.control then c.sent ++ begun now timeout n ∷ [] else c.sent } })
    else None

abbrev pub next_resent : ℕ → Commands → ℕ → Option SentControl → Option Next
next_resent now c i None = None
next_resent now c i (Some p) = Some (record { command = p.command; commands = record c { sent = slice_set c.sent i (again now p) } })

abbrev pub next_of : ℕ → ℕ → Commands → Option ℕ → Option Next
next_of now timeout c None = next_queued now timeout c c.queued
next_of now timeout c (Some i) = next_resent now c i (slice_get c.sent i)

-- by number: the first sent command that is due to go again, else the head of the queue where it may go
abbrev pub next : ℕ → ℕ → Commands → Option Next
next now timeout c = next_of now timeout c (position (λ (p : SentControl). p.transmission.due) c.sent)

-- what a call of next_due does: it writes what is due where that fits, and else changes nothing. What is written has its
-- numbers in their ranges, so its bytes spell it
abbrev pub Did : Option Next → Written → Commands → Commands → Buffer → Type 0
Did (Some n) (written.Sent past) old new buf =
    Puts buf.old buf.at (canonical (message_of n.command)) buf.new past × (new ≡ n.commands) × IsMessage (message_of n.command)
Did (Some n) written.NoRoom old new buf =
    (length buf.old < buf.at + length (canonical (message_of n.command))) × (new ≡ old) × (buf.new ≡ buf.old)
Did None written.Nothing old new buf = (new ≡ old) × (buf.new ≡ buf.old)
Did _ _ old new buf = ⊥

-- where the sent command of this number stands
abbrev pub position_of : ℕ → List SentControl → Option ℕ
position_of number sent = position (λ (p : SentControl). p.command.number == number) sent

abbrev pub without_place : List SentControl → Option ℕ → List SentControl
without_place sent None = sent
without_place sent (Some i) = remove sent i

-- an acknowledgement that matches removes the sent command of its number
abbrev pub after_acknowledgement : Commands → ℕ → Commands
after_acknowledgement c number = record c { sent = without_place c.sent (position_of number c.sent) }

-- whether this time is that of a send of it. Of a server's answer each send counts by itself: by its acknowledgement a client is who
-- it says it is
abbrev pub went_as : Control → ℕ → SentControl → Bool
went_as (control.VerifyConnect verify) time p = has_time time p.times
went_as _ time p = transmission.went_at time p.transmission

abbrev pub went_at : ℕ → SentControl → Bool
went_at time p = went_as p.command.control time p

-- what it was, where this time is that of a send of it
abbrev pub control_of : ℕ → Option SentControl → Option Control
control_of time None = None
control_of time (Some p) = if went_at time p then Some p.command.control else None

abbrev pub control_at : ℕ → List SentControl → Option ℕ → Option Control
control_at time sent None = None
control_at time sent (Some i) = control_of time (slice_get sent i)

-- what the command was that an acknowledgement matches: the sent one of its number, where the time that it repeats is that of a send of it
abbrev pub acknowledged_control : Commands → ℕ → ℕ → Option Control
acknowledged_control c number time = control_at time c.sent (position_of number c.sent)

-- one that matches nothing changes nothing
abbrev pub after_match : Commands → ℕ → Option Control → Commands
after_match c number None = c
after_match c number (Some what) = after_acknowledgement c number

-- a sent command that waited out its timeout, and is not due to go again already
abbrev pub is_late : ℕ → SentControl → Bool
is_late now p = transmission.is_late now p.transmission

-- where it is late, it is due to go again, and has its next timeout then
abbrev pub marked : Tick → SentControl → SentControl
marked tick p = record p { transmission = transmission.marked tick p.transmission }

abbrev pub with_marked : Tick → Commands → Commands
with_marked tick c = record c { sent = map (marked tick) c.sent }

-- where it is late, it counts as tried though nothing goes: it waits longer, from now on. The times of its sends stay
abbrev pub held_back : Tick → SentControl → SentControl
held_back tick p =
    if is_late tick.now p then record p { transmission = transmission.again tick.now (transmission.marked tick p.transmission) } else p

abbrev pub with_held_back : Tick → Commands → Commands
with_held_back tick c = record c { sent = map (held_back tick) c.sent }

-- so many milliseconds or more have passed since it first went
abbrev pub has_waited : ℕ → ℕ → SentControl → Bool
has_waited ms now p = nat_le ms (elapsed_time now p.transmission.first)

-- it is late, and the peer, last heard at `heard`, has timed out over it
abbrev pub ends : ℕ → Patience → ℕ → SentControl → Bool
ends now patience heard p = transmission.ends now patience heard p.transmission

-- what a moment brings: the end of the peer, resends, or nothing
abbrev pub lateness : ℕ → Patience → ℕ → Commands → Expiry
lateness now patience heard c =
    if is_some (position (ends now patience heard) c.sent) then End
    else (if is_some (position (is_late now) c.sent) then Resend else No)

-- the end changes nothing here
abbrev pub after_lateness : Expiry → Tick → Commands → Commands
after_lateness No tick c = c
after_lateness Resend tick c = with_marked tick c
after_lateness End tick c = c

-- all that is queued or sent is dropped, and the numbers stay
abbrev pub cleared : Commands → Commands
cleared c = record c { queued = []; sent = [] }

-- whether nothing is queued or unacknowledged
abbrev pub is_idle : Commands → Bool
is_idle c = length c.queued == 0 && length c.sent == 0

-- whether nothing may go before a call or a moment: nothing is queued, and nothing that is sent is due to go again
abbrev pub is_at_rest : Commands → Bool
is_at_rest c = length c.queued == 0 && not (is_some (position (λ (p : SentControl). p.transmission.due) c.sent))
