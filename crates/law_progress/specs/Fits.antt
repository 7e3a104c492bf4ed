-- All that a peer has to send fits its datagrams, whatever happens at it.
use Rattle.std.specs.Prelude.{ℕ, List}
use Rattle.enet_peer.specs.Peering.{Peering}
use Rattle.enet_peer.specs.Calls.{pace_of}
use Rattle.law_progress.specs.Outboxes.{AllFit}
use Rattle.law_progress.specs.Waits.{Moments}

-- wherever a peer comes from this one, at whatever moment it puts something out
abbrev pub StaysFit : Peering → Type 0
StaysFit p = (gap now : ℕ) (moments : List ℕ) (q : Peering) (when : ℕ) → Moments gap now p moments q → AllFit (pace_of q when) q.outbox
