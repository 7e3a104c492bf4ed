-- The channels of a peer: each key of theirs stands in one ring once, and there is no command that none of them names.
use Rattle.std.specs.Prelude.{◌≡◌, ℕ, ◌<◌, ◌≤◌, false, List, [], length, map, All, sum_by, Option, Some, None}
use Rattle.slab.specs.Slab.{Slab, get}
use Rattle.enet_rtt.specs.declared.transmission.Tick.{Tick}
use Rattle.enet_sender.specs.declared.lateness.Late.{Late}
use Rattle.enet_sender.specs.declared.sent.Sent.{Sent}
use Rattle.enet_sender.specs.Late.{capped}
use Rattle.enet_sender.specs.Sender.{Sender, with_marked, late_bytes, late_price, lost_price, cleared}
use Rattle.enet_sender.specs.Due.{SendingEnd}
use Rattle.enet_sender.specs.declared.outgoing.Outgoing.{Outgoing}
use Rattle.enet_sender.specs.declared.pending.Pending.{Pending}
use Rattle.enet_sender.specs.Pending.{vacant, times, held}
use Rattle.enet_sender.specs.Rings.{HasRoom, Keeps, rings_of, keys_of, end_of}

-- the list model of the channels
abbrev pub ends_of : Slab Sent → List Outgoing → List SendingEnd
ends_of s channels = map (end_of s) channels

-- what is late there is due to go again
abbrev pub marked_end : Tick → SendingEnd → SendingEnd
marked_end tick s = record s { sender = with_marked tick s.sender }

-- what their sent commands weigh together
abbrev pub sum_over : (Sent → ℕ) → List SendingEnd → ℕ
sum_over weight senders = sum_by (λ (s : SendingEnd). sum_by weight s.sender.sent) senders

-- the bytes and prices of what is late on all channels, and the prices of what was lost; each stops at the greatest number
pub record IsLateOver (tick : Tick) (senders : List SendingEnd) (late : Late) : Type 0 where
  pub bytes : late.bytes ≡ capped (sum_over (late_bytes tick) senders)
  pub prices : late.prices ≡ capped (sum_over (late_price tick) senders)
  pub lost : late.lost ≡ capped (sum_over (lost_price tick) senders)

-- all that is queued or sent there is dropped
abbrev pub cleared_end : SendingEnd → SendingEnd
cleared_end s = record s { sender = cleared s.sender }

-- nothing is queued there, and nothing that is sent is due to go again
pub record IsStill (s : Sender) : Type 0 where
  pub queued : s.queued ≡ []
  pub sent : All (λ (p : Sent). p.transmission.due ≡ false) s.sent

abbrev pub times_in : ℕ → Outgoing → ℕ
times_in key o = times key (keys_of (rings_of o))

-- Each channel is kept, and a command stands under a key just where one of their rings has it, once. Bodies are short.
pub record KeepsAll (at : ℕ → Option Sent) (channels : List Outgoing) : Type 0 where
  pub each : All (λ (o : Outgoing). Keeps at (rings_of o)) channels
  pub nothing : at vacant ≡ None
  pub short : (key : ℕ) (p : Sent) → at key ≡ Some p → length p.command.body ≤ 4068
  pub names : (key : ℕ) → key < vacant → sum_by (times_in key) channels ≡ held at key
  pub room : All HasRoom channels

-- the same of the commands that a `Pending` has
abbrev pub ends_in : Pending → List Outgoing → List SendingEnd
ends_in p channels = ends_of p.slab channels

abbrev pub KeepsAllIn : Pending → List Outgoing → Type 0
KeepsAllIn p channels = KeepsAll (get p.slab) channels
