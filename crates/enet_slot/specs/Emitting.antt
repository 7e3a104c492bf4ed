-- A slot is asked for a datagram.
use Rattle.std.specs.Prelude.{◌≡◌, ℕ, ◌+◌, min, Option, Some, None, List}
use Rattle.enet_peer.specs.Peering.{Peering}
use Rattle.enet_peer.specs.Calls.{PutsOut}
use Rattle.enet_slot.specs.Slot.{SlotState, with_peer, greatest}

abbrev pub with_emitted : SlotState → ℕ → SlotState
with_emitted s len = record s { emitted = min (s.emitted + len) greatest }

-- the peer of a slot puts out a datagram of this length
pub record PeerEmits (now len : ℕ) (buf : List ℕ) (s t : SlotState) : Type 0 where
  pub peer : Peering
  pub after : Peering
  pub held : s.peer ≡ Some peer
  pub puts : PutsOut now (Some len) peer after buf
  pub left : t ≡ with_peer (with_emitted s len) after

-- the peer of a slot is asked and has nothing to put out; it may still go on
pub record HasNothing (now : ℕ) (s t : SlotState) (p : Peering) : Type 0 where
  pub after : Peering
  pub buf : List ℕ
  pub puts : PutsOut now None p after buf
  pub left : t ≡ with_peer s after

-- a slot is asked in vain: it is free, or its peer has nothing to put out
abbrev pub passes_by : ℕ → SlotState → SlotState → Option Peering → Type 0
passes_by now s t None = t ≡ s
passes_by now s t (Some p) = HasNothing now s t p

abbrev pub Passes : ℕ → SlotState → SlotState → Type 0
Passes now s t = passes_by now s t s.peer
