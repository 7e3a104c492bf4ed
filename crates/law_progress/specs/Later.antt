-- How a peer that is to disconnect later comes to do so, whatever comes. Times are in milliseconds, as in Attempts.
use Rattle.std.specs.Prelude.{◌≡◌, Bool, ℕ, ◌+◌, ◌*◌, ◌^◌, ◌<◌, ◌≤◌, List, [], ◌∷◌, length, ◌⊎◌}
use Rattle.enet_sender.specs.Due.{SendingEnd}
use Rattle.enet_outbox.specs.Outbox.{Outbox}
use Rattle.enet_peer.specs.declared.parts.PeerState.TheVariants as state
use Rattle.enet_peer.specs.Peering.{Peering}
use Rattle.enet_peer.specs.Calls.{moved}
use Rattle.law_progress.specs.Attempts.{Step, after_step, Turns, last_of, IsTold}
use Rattle.law_progress.specs.Waits.{RoomyBefore}

-- how many commands wait to go for the first time
abbrev pub queued_over : List SendingEnd → ℕ
queued_over [] = 0
queued_over (s ∷ rest) = length s.sender.queued + queued_over rest

abbrev pub still_to_go : Outbox → ℕ
still_to_go o = length o.control.queued + queued_over o.senders

-- how many wait for their acknowledgement
abbrev pub sent_over : List SendingEnd → ℕ
sent_over [] = 0
sent_over (s ∷ rest) = length s.sender.sent + sent_over rest

abbrev pub still_to_come : Outbox → ℕ
still_to_come o = length o.control.sent + sent_over o.senders

-- how often a command is still to go for the first time, and how often one is to be acknowledged: what is to go twice, what was sent once
abbrev pub still_to_do : Outbox → ℕ
still_to_do o = 2 * still_to_go o + still_to_come o

-- how long a command in transit waits for its acknowledgement at most
abbrev pub longest_wait : Peering → ℕ
longest_wait p = 5000 + 2 * p.patience.maximum

-- where this peer has come, after any moments, to be one that is to disconnect later, it stays so for at most the longest wait and the gap, for
-- each command that is still to go, for each that is still to be acknowledged, and once more. All that, with once more, is over less than some
-- 49 days after a moment `since`, and nothing was due at the end of a moment before that: of what is due for longer the 32 bits of a clock may
-- not tell how long ago it first went
abbrev pub DisconnectsLater : Peering → Type 0
DisconnectsLater p = (since gap now : ℕ) (moments : List ℕ) (q : Peering) (next : ℕ) (later : List ℕ) (r : Peering) → RoomyBefore since gap now p moments q
    → last_of now moments ≤ next → next ≤ last_of now moments + gap → since ≤ next → next + (still_to_do q.outbox + 2) * (longest_wait p + gap) < since + 2 ^ 32
    → Turns state.DisconnectLater gap next q later r → last_of next later ≤ next + (still_to_do q.outbox + 1) * (longest_wait p + gap)

-- it has asked for the end, or has the other end's request for it to acknowledge
abbrev pub IsLeaving : Peering → Type 0
IsLeaving p = (p.state ≡ state.Disconnecting) ⊎ (p.state ≡ state.AckDisconnect)

-- a peer that is to disconnect later ceases to be so, by a step or by a moment that comes, only so that it is leaving, or its user is told
pub record LeavesOrTells : Type 0 where
  pub step : (p : Peering) (now : ℕ) (step : Step) → p.state ≡ state.DisconnectLater → ((after_step now p step).state ≡ state.DisconnectLater) ⊎ (IsLeaving (after_step now p step) ⊎ IsTold (after_step now p step))
  pub tick : (short : Bool) (p : Peering) (now : ℕ) → p.state ≡ state.DisconnectLater → ((moved short p now).state ≡ state.DisconnectLater) ⊎ IsTold (moved short p now)
