-- How long a command waits for its acknowledgement, whatever comes and whatever the user does, settings apart. Times are in milliseconds,
-- as in Attempts.
use Rattle.std.specs.Prelude.{◌≡◌, ℕ, ◌+◌, ◌*◌, ◌%◌, ◌^◌, ◌<◌, ◌≤◌, ◌||◌, ◌⊎◌, Bool, false, List, [], ◌∷◌, Option, Some, None}
use Rattle.std.specs.List.{list_any}
use Rattle.enet_rtt.specs.Clock.{elapsed_time}
use Rattle.enet_senders.specs.declared.control.SentControl.{SentControl}
use Rattle.enet_receiver.specs.Members.{Has}
use Rattle.enet_sender.specs.CommandChoice.{Packet}
use Rattle.enet_sender.specs.declared.sent.Sent.{Sent}
use Rattle.enet_sender.specs.Due.{SendingEnd}
use Rattle.enet_outbox.specs.Outbox.{Outbox}
use Rattle.enet_peer.specs.Peering.{Peering}
use Rattle.enet_peer.specs.Calls.{Leave, left, submitted, moved}
use Rattle.law_progress.specs.Attempts.{Step, after_step, last_of}

-- what can happen at a peer between two moments of its clock, its user's calls among it
pub data Deed : Type 0 where
  Lives : (step : Step) → Deed  -- as in an attempt
  Submits : (channel : ℕ) (packet : Packet) → Deed  -- a packet is submitted
  Leaves : (leave : Leave) (info : ℕ) → Deed  -- the user disconnects, in any way

abbrev pub after_leave : Peering → Option Peering → Peering
after_leave p None = p
after_leave p (Some q) = q

abbrev pub after_deed : ℕ → Peering → Deed → Peering
after_deed now p (Lives step) = after_step now p step
after_deed now p (Submits channel packet) = submitted p channel packet
after_deed now p (Leaves leave info) = after_leave p (left leave p info)

abbrev pub after_deeds : ℕ → Peering → List Deed → Peering
after_deeds now p [] = p
after_deeds now p (deed ∷ deeds) = after_deeds now (after_deed now p deed) deeds

-- whether something that was sent is due to go again
abbrev pub has_due : Outbox → Bool
has_due o = list_any (λ (t : SentControl). t.transmission.due) o.control.sent || list_any (λ (s : SendingEnd). list_any (λ (t : Sent). t.transmission.due) s.sender.sent) o.senders

-- the clock comes to a moment, and anything happens
pub record Moment (now : ℕ) (p q : Peering) : Type 0 where
  pub short : Bool  -- its address may have sent too little for another answer
  pub deeds : List Deed
  pub after : q ≡ after_deeds (now % 2 ^ 32) (moved short p (now % 2 ^ 32)) deeds

-- such a moment, and further ones, each at most `gap` after the one before
abbrev pub Moments : ℕ → ℕ → Peering → List ℕ → Peering → Type 0
Moments gap now p [] q = Moment now p q
Moments gap now p (next ∷ later) q = (r : Peering) × Moment now p r × (now ≤ next) × (next ≤ now + gap) × Moments gap next r later q

-- the same, where at the end of each moment nothing is due to go again: all that was due had room, and went
pub record RoomyMoment (now : ℕ) (p q : Peering) : Type 0 where
  pub moment : Moment now p q
  pub resent : has_due q.outbox ≡ false

abbrev pub RoomyMoments : ℕ → ℕ → Peering → List ℕ → Peering → Type 0
RoomyMoments gap now p [] q = RoomyMoment now p q
RoomyMoments gap now p (next ∷ later) q = (r : Peering) × RoomyMoment now p r × (now ≤ next) × (next ≤ now + gap) × RoomyMoments gap next r later q

-- moments, of which this is so at those before `since`
abbrev pub RoomyBefore : (since gap now : ℕ) → Peering → List ℕ → Peering → Type 0
RoomyBefore since gap now p [] q = Moment now p q × ((since ≤ now) ⊎ (has_due q.outbox ≡ false))
RoomyBefore since gap now p (next ∷ later) q = (r : Peering) × Moment now p r × ((since ≤ now) ⊎ (has_due r.outbox ≡ false)) × (now ≤ next) × (next ≤ now + gap) × RoomyBefore since gap next r later q

-- each command that waits for its acknowledgement first went no longer ago than its timeout and `most` together
pub record WaitAtMost (most now : ℕ) (o : Outbox) : Type 0 where
  pub controls : (t : SentControl) → Has o.control.sent t → elapsed_time now t.transmission.first ≤ most + t.transmission.timeout
  pub channels : (s : SendingEnd) → Has o.senders s → (t : Sent) → Has s.sender.sent t → elapsed_time now t.transmission.first ≤ most + t.transmission.timeout

-- nothing that a peer sends waits for longer than its timeout and the greatest patience, at any moment, where nothing ever waited for room
-- to go again, and its clock never stands still for so long that it wraps: else the peer has ended
abbrev pub NoneWaitsLonger : Peering → Type 0
NoneWaitsLonger p = (gap now : ℕ) (moments : List ℕ) (q : Peering) → 5000 + 2 * p.patience.maximum + gap < 2 ^ 32 → RoomyMoments gap now p moments q
    → WaitAtMost p.patience.maximum (last_of now moments % 2 ^ 32) q.outbox
