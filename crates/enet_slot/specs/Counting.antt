-- What a slot is, how many slots of a host are so, and how much of what their peers sent went again.
use Rattle.std.specs.Prelude.{◌≡◌, ℕ, ◌+◌, Bool, true, false, nat_lt, Option, Some, None, List, length, sum_by}
use Rattle.std.specs.List.{count_by}
use Rattle.enet_peer.specs.declared.parts.PeerState.{PeerState}
use Rattle.enet_peer.specs.declared.parts.PeerState.TheVariants as state
use Rattle.enet_peer.specs.Counting.{count_by_peer}
use Rattle.enet_peer.specs.Peering.{Peering}
use Rattle.enet_slot.specs.declared.counting.SlotCounts.{SlotCounts}
use Rattle.enet_slot.specs.declared.counting.Standing.{Standing}
use Rattle.enet_slot.specs.declared.counting.Standing.TheVariants as standing
use Rattle.enet_slot.specs.Slot.{SlotState}

-- of a slot that holds a peer: how far that has come. It leaves once its user asks for the end, or the other end's DISCONNECT came
abbrev pub standing_in : PeerState → Standing
standing_in state.Connecting = standing.Connecting
standing_in state.Answering = standing.Answering
standing_in state.Connected = standing.Connected
standing_in _ = standing.Leaving

-- of a slot that is free: whether it has a generation left
abbrev pub standing_by : Bool → Option Peering → Standing
standing_by true None = standing.Free
standing_by false None = standing.Spent
standing_by has_left (Some p) = standing_in p.state

abbrev pub standing_of : ℕ → SlotState → Standing
standing_of generations s = standing_by (nat_lt s.generation generations) s.peer

abbrev pub is_free : Standing → Bool
is_free standing.Free = true
is_free _ = false

abbrev pub is_spent : Standing → Bool
is_spent standing.Spent = true
is_spent _ = false

abbrev pub is_connecting : Standing → Bool
is_connecting standing.Connecting = true
is_connecting _ = false

abbrev pub is_answering : Standing → Bool
is_answering standing.Answering = true
is_answering _ = false

abbrev pub is_connected : Standing → Bool
is_connected standing.Connected = true
is_connected _ = false

abbrev pub is_leaving : Standing → Bool
is_leaving standing.Leaving = true
is_leaving _ = false

-- how many slots are so, if each has so many generations
abbrev pub how_many : (Standing → Bool) → ℕ → List SlotState → ℕ
how_many is generations slots = count_by (λ (s : SlotState). is (standing_of generations s)) slots

-- each of the counts is right, and each slot is in one of them
pub record Counts (generations : ℕ) (slots : List SlotState) (c : SlotCounts) : Type 0 where
  pub free : c.free ≡ how_many is_free generations slots
  pub spent : c.spent ≡ how_many is_spent generations slots
  pub connecting : c.connecting ≡ how_many is_connecting generations slots
  pub answering : c.answering ≡ how_many is_answering generations slots
  pub connected : c.connected ≡ how_many is_connected generations slots
  pub leaving : c.leaving ≡ how_many is_leaving generations slots
  pub all : c.free + c.spent + c.connecting + c.answering + c.connected + c.leaving ≡ length slots

-- how many of the commands that its peer has sent, and that are not acknowledged, were sent more than once
abbrev pub count_of : Option Peering → ℕ
count_of None = 0
count_of (Some p) = count_by_peer p

abbrev pub count_at : SlotState → ℕ
count_at s = count_of s.peer

abbrev pub count_sent_again : List SlotState → ℕ
count_sent_again slots = sum_by count_at slots
